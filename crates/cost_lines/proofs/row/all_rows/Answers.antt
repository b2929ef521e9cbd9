use Rattle.cost_lines.proofs.RowLine.{crossing_more}
use Rattle.cost_lines.proofs.row.all_rows.Goals as goal

pub loop-y-preserved : goal.loop-y-preserved
loop-y-preserved c =
    let m = c.row_line in
    crossing_more m.new.distances m.new.sites c.loop-y.invariant c.loop-y-test.true m.ensures
    m.auto.values m.auto.scratch m.auto.distances m.auto.sites
