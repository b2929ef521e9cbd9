-- `columns::down::down_rows` meets its contract. The loop's invariant: the rows before y are done, and row y begins at
-- `start`. The measure is the number of cells left. Assumes nothing.
use Prim.Native.Nat.{◌-◌}
use lib.ListN.{length}
use Rattle.columns.proofs.Lowering.{Lowering}
use Rattle.columns.proofs.down.down_rows.Given as goal

abbrev pub invariant-loop-start : goal.invariant-loop-start
invariant-loop-start l =
    let board = l.band.board in
    Lowering board.w board.h l.band.from l.band.to l.picture l.fn.words l.words l.start l.y

abbrev pub decreases-loop-start : goal.decreases-loop-start
decreases-loop-start l = length l.picture - l.start
