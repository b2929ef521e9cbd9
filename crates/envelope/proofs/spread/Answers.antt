use mathlib.Core.Path.{refl}
use Prim.Native.Nat.{◌≤◌}
use native.Mathlib.Omega.{arith}
use lib.ListN.{length}
use Rattle.envelope.proofs.Spreading.{spread_start, spread_start_of, spread_within, spread_end}
use Rattle.envelope.proofs.spread.Goals.{In-loop-x}
use Rattle.envelope.proofs.spread.Goals as goal

-- what is known in the loop: the scan has so many stretches left, each within the work words
abbrev within : (c : In-loop-x) →
    (1 ≤ c.loop-x.q) × (c.loop-x.q ≤ length c.args.winners.now)
within c =
    let i = c.loop-x.invariant in
    let p = c.requires in
    (i.some c.loop-x-test.true, omega (arith, i.most, p.most))

pub loop-x-init : goal.loop-x-init
loop-x-init c = spread_start c.requires refl

pub overflow_sub-winners : goal.overflow_sub-winners
overflow_sub-winners c = c.loop-x.invariant.some c.loop-x-test.true

pub overflow_add-winners : goal.overflow_add-winners
overflow_add-winners c = omega (arith, within c)

pub offset_bounds-work-n : goal.offset_bounds-work-n
offset_bounds-work-n c = omega (arith, within c)

pub bounds-work-n : goal.bounds-work-n
bounds-work-n c = omega (arith, within (goal.at.bounds-work-n c).In-loop-x)

pub offset_bounds-winners-x : goal.offset_bounds-winners-x
offset_bounds-winners-x c = omega (arith, within (goal.at.offset_bounds-winners-x c).In-loop-x)

pub bounds-winners-x : goal.bounds-winners-x
bounds-winners-x c = omega (arith, within (goal.at.bounds-winners-x c).In-loop-x)

pub overflow_sub-q : goal.overflow_sub-q
overflow_sub-q c = c.loop-x.invariant.some c.loop-x-test.true

pub offset_bounds-work-q : goal.offset_bounds-work-q
offset_bounds-work-q c = omega (arith, within (goal.at.offset_bounds-work-q c).In-loop-x)

pub bounds-work-q : goal.bounds-work-q
bounds-work-q c = omega (arith, within (goal.at.bounds-work-q c).In-loop-x)

pub overflow_sub-q-then-work-q : goal.overflow_sub-q-then-work-q
overflow_sub-q-then-work-q c = c.loop-x.invariant.some c.loop-x-test.true

pub loop-x-preserved-then-work-q : goal.loop-x-preserved-then-work-q
loop-x-preserved-then-work-q c =
    spread_start_of c.requires c.loop-x.invariant c.loop-x-test.true
    c.if-work-q.true

pub loop-x-preserved : goal.loop-x-preserved
loop-x-preserved c =
    spread_within c.requires c.loop-x.invariant c.loop-x-test.true
    c.if-work-q.false

pub shape_of-winners : goal.shape_of-winners
shape_of-winners c = c.loop-x.invariant.as_long

pub returns : goal.returns
returns c = spread_end c.requires c.loop-x.invariant c.loop-x-test.false
