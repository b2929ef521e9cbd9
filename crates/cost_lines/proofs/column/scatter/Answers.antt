use Prim.Native.Nat.{◌<◌}
use native.Mathlib.Omega.{arith}
use lib.ListN.{length}
use Rattle.rules.proofs.Board.{cell_in}
use Rattle.cost_lines.proofs.Putting.{putting_more}
use Rattle.cost_lines.proofs.column.scatter.Goals as goal

pub loop-y-preserved : goal.loop-y-preserved
loop-y-preserved c =
    let p = c.requires in
    let below : c.loop-y.y < length c.args.values.now = omega (arith, p.as_long) in
    putting_more c.loop-y.invariant p.column_in (omega (arith, cell_in p.column_in below, p.room))
    c.winner_word.ensures
