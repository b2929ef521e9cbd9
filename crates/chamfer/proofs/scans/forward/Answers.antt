-- One row more: the scan goes on from the row's first cell. Assumes nothing.
use native.Mathlib.Omega.{arith}
use Rattle.chamfer.proofs.Settling.{forward_on}
use Rattle.chamfer.proofs.scans.forward.Goals as goal

pub loop-y-preserved : goal.loop-y-preserved
loop-y-preserved c = forward_on (omega arith) (omega arith) c.loop-y.invariant c.forward_row.ensures
