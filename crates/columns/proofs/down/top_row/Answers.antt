use native.Mathlib.Omega.{arith}
use Rattle.columns.proofs.Rows.{row_more, row_end}
use Rattle.columns.proofs.down.top_row.Goals as goal

pub loop-x-preserved : goal.loop-x-preserved
loop-x-preserved c = row_more c.loop-x.invariant (omega arith) (omega arith) (omega arith) c.carried.ensures

pub returns : goal.returns
returns c = row_end c.loop-x.invariant (omega arith) (omega arith)
