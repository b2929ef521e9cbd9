use Rattle.cost_lines.proofs.ColumnLine.{sweeping_more}
use Rattle.cost_lines.proofs.column.all_columns.Goals as goal

pub loop-x-preserved : goal.loop-x-preserved
loop-x-preserved c =
    sweeping_more c.loop-x.invariant c.loop-x-test.true c.column_line.ensures c.column_line.auto.values
    c.column_line.auto.winners c.column_line.auto.scratch
