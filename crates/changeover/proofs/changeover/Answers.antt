-- `changeover::changeover` meets its contract. Each test that refuses is one way in which row 9 holds; past all four the
-- inputs are good, what is read from the list are the squares of the columns, and the answer is the floor. Assumes nothing.
use mathlib.Core.Path.{◌≡◌}
use Prim.Native.Nat.{◌+◌, ◌*◌}
use native.Mathlib.Omega.{arith}
use Rattle.rules.specs.Refusals.{bad_changeover}
use Rattle.rules.proofs.Refusals.{Comparable, changeover_passes, holds_unless}
use Rattle.rules.proofs.Calls.{refused_call}
use Rattle.changeover.proofs.Answers.{answered_up, answered_down}
use Rattle.changeover.proofs.changeover.Goals.{After-square-2}
use Rattle.changeover.proofs.changeover.Goals as goal

-- past the tests the inputs are good, and the two sums are those of the columns' squares
given : (c : After-square-2) → let x = c.args in
    Comparable x.i x.u x.a x.b
    × (c.square.result + c.from-a.result ≡ x.i * x.i + x.a)
    × (c.square-2.result + c.from-b.result ≡ x.u * x.u + x.b)
given c =
    let list = c.list_of_squares-squares.ensures in
    let left = list.entry c.args.i (omega arith) in
    let right = list.entry c.args.u (omega arith) in
    (omega arith, omega arith, omega arith)

pub returns-then-u-i : goal.returns-then-u-i
returns-then-u-i c =
    let x = c.args in
    refused_call (rw (holds_unless (bad_changeover x.i x.u x.a x.b) (λ e. omega (arith, changeover_passes x.i x.u x.a x.b e)))) (λ e. omega arith) tt

pub returns-then-low-top : goal.returns-then-low-top
returns-then-low-top c =
    let (good, low, top) = given (goal.at.returns-then-low-top c).After-square-2 in
    answered_up good c.last_euclid.result (omega arith) (cc)

pub returns : goal.returns
returns c =
    let (good, low, top) = given (goal.at.returns c).After-square-2 in
    answered_down good c.div_ceil-below.result (omega arith) (cc)
