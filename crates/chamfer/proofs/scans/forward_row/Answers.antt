-- One cell more: its turn settles it, and the scan goes on from there. Assumes nothing.
use native.Mathlib.Omega.{arith}
use borrow.Author.Rules.{rules}
use Rattle.chamfer_turn.specs.Neighbours.{weighed, On, CellTurned}
use Rattle.chamfer.specs.Scans.{half}
use Rattle.chamfer.proofs.Order.{forward_scan}
use Rattle.chamfer.proofs.Settling.{one_turn, forward_on}
use Rattle.chamfer.proofs.scans.forward_row.Goals as goal

pub loop-x-preserved : goal.loop-x-preserved
loop-x-preserved c =
    let before = c.loop-x.invariant in
    let here : On (weighed c.args.chamfer) c.loop-x.x c.args.y = search rules in
    let turned : CellTurned (weighed c.args.chamfer) c.loop-x.x c.args.y 0 half c.loop-x.words c.relax.new.words = search rules in
    forward_on (omega arith) (omega arith) before
    (one_turn forward_scan (omega arith) (omega arith) before.words here turned)
