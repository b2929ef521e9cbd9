use native.Mathlib.Omega.{arith}
use Rattle.columns.proofs.Rows.{row_end}
use Rattle.columns.proofs.Raising.{lifted}
use Rattle.columns.proofs.up.up_row.Goals as goal

pub loop-x-preserved : goal.loop-x-preserved
loop-x-preserved c =
    lifted (omega arith) (omega arith) c.loop-x.invariant (omega arith) c.nearer.ensures

pub returns : goal.returns
returns c = row_end c.loop-x.invariant (omega arith) (omega arith)
