-- `columns::down::down_row` meets its contract. The loop's invariant: the row is filled up to column x, so the row
-- over it is as it was. Assumes nothing.
use Prim.Native.Nat.{◌-◌}
use Rattle.columns.specs.Rows.{BandRow, Stepped}
use Rattle.columns.proofs.down.down_row.Given as goal

abbrev pub invariant-loop-x : goal.invariant-loop-x
invariant-loop-x l =
    let band = l.fn.band in
    BandRow l.start band.from l.x (Stepped (l.start - band.board.w) l.start l.y l.picture l.fn.words) l.fn.words l.words
