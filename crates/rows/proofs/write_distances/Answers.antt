use Prim.Native.Nat.{◌<◌}
use native.Mathlib.Omega.{arith}
use lib.ListN.{length}
use Rattle.rules.proofs.Filling.{filling_none, filling_more}
use Rattle.rows.proofs.write_distances.Goals as goal

pub loop-x-init : goal.loop-x-init
loop-x-init c = filling_none

pub map_word-requires : goal.map_word-requires
map_word-requires c =
    let p = c.requires in
    let x = c.loop-x.x in
    let h : x < length c.args.values.now = omega (arith, p.2) in
    (p.0, p.1.column_in x h, h, p.1.small x h)

pub bounds-distances-x : goal.bounds-distances-x
bounds-distances-x c = omega (arith, c.loop-x.invariant.as_long, c.requires.2, c.requires.3)

pub loop-x-preserved : goal.loop-x-preserved
loop-x-preserved c = filling_more c.loop-x.invariant (omega (arith, c.requires.2, c.requires.3)) c.map_word.ensures

pub shape_of-distances : goal.shape_of-distances
shape_of-distances c = c.loop-x.invariant.as_long

pub returns : goal.returns
returns c =
    let p = c.requires in
    record { word = λ k h. c.loop-x.invariant.done k (omega (arith, p.2, c.loop-x-test.false)) }
