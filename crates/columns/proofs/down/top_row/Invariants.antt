-- `columns::down::top_row` meets its contract. The loop's invariant: the row is filled up to column x. Assumes nothing.
use Rattle.columns.specs.Rows.{BandRow, Topped}
use Rattle.columns.proofs.down.top_row.Given as goal

abbrev pub invariant-loop-x : goal.invariant-loop-x
invariant-loop-x l = BandRow 0 l.fn.band.from l.x (Topped l.picture) l.fn.words l.words
