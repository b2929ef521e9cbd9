-- `slices::lines_done` meets its contract: the columns, and where they go through, the rows. Assumes nothing.
use mathlib.Core.Path.{◌≡◌, refl}
use Prim.Native.Nat.{◌+◌, ◌-◌}
use native.Mathlib.Omega.{arith}
use Rattle.rules.specs.Answers.{kind_number}
use Rattle.slices.proofs.After.{columns_left, rows_left}
use Rattle.slices.proofs.lines_done.Goals as goal

pub returns-in-Some : goal.returns-in-Some
returns-in-Some c =
    let done = c.in-Some.ensures in
    columns_left c.args.lines.ordered c.min.ensures c.min-2.ensures done.first done.swept (omega (arith, done.first.from_in))
    (λ e. absurd (omega arith)) (λ _. (done.inside, refl))

pub returns-then-end-board : goal.returns-then-end-board
returns-then-end-board c =
    let a = c.args in
    let done = c.in_default.ensures in
    let all : c.min-2.result ≡ a.lines.end = omega arith in
    rw all at (columns_left a.lines.ordered c.min.ensures c.min-2.ensures done.first done.swept
    {kind = kind_number a.kind} {d = a.distances.now} {s = a.sites.now} (omega arith) (λ _. refl) (λ l. absurd (omega arith)))

pub returns : goal.returns
returns c =
    let lines = c.args.lines in
    let done = c.in_default.ensures in
    let rows = c.rows_done in
    let next : lines.board.w + (rows.result.next - lines.board.w) ≡ rows.result.next = omega (arith, rows.ensures.past) in
    rw next at (rows_left lines.ordered c.min.ensures c.min-2.ensures done.first done.swept c.if-end-board.false (omega arith) lines.lines_in rows.ensures.rows)
