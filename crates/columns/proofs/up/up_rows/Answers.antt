use Rattle.columns.proofs.Raising.{raising_start, raising_more, raising_end}
use Rattle.columns.proofs.up.up_rows.Goals as goal

pub loop-start-init : goal.loop-start-init
loop-start-init c = raising_start c.args.band.board.sides

pub loop-start-preserved : goal.loop-start-preserved
loop-start-preserved c =
    let band = c.args.band in
    raising_more c.loop-start.invariant band.board.sides band.columns_in c.loop-start-test.true c.up_row.ensures

pub returns : goal.returns
returns c = raising_end c.loop-start.invariant c.args.band.board.sides c.loop-start-test.false
