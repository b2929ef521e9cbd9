-- `columns::up::up_row` meets its contract. The loop's invariant: the row is filled up to column x, so the rest of it
-- and the row below are as they were. Assumes nothing.
use Prim.Native.Nat.{◌+◌}
use Rattle.columns.specs.Rows.{BandRow, Lifted}
use Rattle.columns.proofs.up.up_row.Given as goal

abbrev pub invariant-loop-x : goal.invariant-loop-x
invariant-loop-x l =
    let band = l.fn.band in
    BandRow l.start band.from l.x (Lifted l.start (l.start + band.board.w) l.y l.fn.words) l.fn.words l.words
