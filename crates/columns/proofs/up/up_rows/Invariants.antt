-- `columns::up::up_rows` meets its contract. The loop's invariant: the rows from y on are done, and row y begins at
-- `start`. The measure is `start`. Assumes nothing.
use Rattle.columns.proofs.Raising.{Raising}
use Rattle.columns.proofs.up.up_rows.Given as goal

abbrev pub invariant-loop-start : goal.invariant-loop-start
invariant-loop-start l =
    let board = l.band.board in
    Raising board.w board.h l.band.from l.band.to l.fn.words l.words l.start l.y

abbrev pub decreases-loop-start : goal.decreases-loop-start
decreases-loop-start l = l.start
