use mathlib.Core.Path.{◌≡◌, sym, ◌∙◌}
use Prim.Native.Nat.{◌+◌, ◌-◌, ◌<◌}
use native.Mathlib.Omega.{arith}
use borrow.Author.Tests.{leb-true, leb-false}
use Rattle.envelope.proofs.Turns.{holder_in}
use Rattle.envelope.proofs.Taking.{none_taken, one_taken, rest_kept, none_kept}
use Rattle.envelope.proofs.keep.Goals as goal

pub loop-k-init : goal.loop-k-init
loop-k-init c = none_taken

pub stays-requires : goal.stays-requires
stays-requires c =
    let p = c.requires in
    let k = c.loop-k.k - 1 in
    let inside : k < c.args.m = omega arith in
    (p.0, p.1, omega (arith, p.2.few), p.2.on_line k inside, omega (arith, holder_in _ p.2 k inside))

pub returns-then-stays : goal.returns-then-stays
returns-then-stays c =
    let all : c.loop-k.k - 1 + 1 ≡ c.loop-k.k = omega arith in
    rw all
    (rest_kept c.loop-k.invariant c.loop-k-test.true (leb-true _ _ (sym c.stays.ensures ∙ c.if-stays.true)))

pub loop-k-preserved : goal.loop-k-preserved
loop-k-preserved c =
    one_taken c.loop-k.invariant c.loop-k-test.true
    (leb-false _ _ (sym c.stays.ensures ∙ c.if-stays.false))

pub returns : goal.returns
returns c = none_kept c.loop-k.invariant c.loop-k-test.false
