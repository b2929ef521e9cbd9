use native.Mathlib.Omega.{arith}
use Rattle.columns.proofs.Rows.{row_end}
use Rattle.columns.proofs.Lowering.{stepped}
use Rattle.columns.proofs.down.down_row.Goals as goal

pub loop-x-preserved : goal.loop-x-preserved
loop-x-preserved c =
    stepped c.args.picture.now (omega arith) (omega arith) (omega arith) c.loop-x.invariant (omega arith)
    c.carried.ensures

pub returns : goal.returns
returns c = row_end c.loop-x.invariant (omega arith) (omega arith)
