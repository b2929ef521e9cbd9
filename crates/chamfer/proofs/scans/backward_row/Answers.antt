-- One cell more: its turn settles it, and the scan goes on from there. Assumes nothing.
use Prim.Native.Nat.{ℕ, ◌-◌}
use native.Mathlib.Omega.{arith}
use borrow.Author.Rules.{rules}
use Rattle.chamfer_turn.specs.Neighbours.{weighed, On, CellTurned}
use Rattle.chamfer.specs.Scans.{half, whole}
use Rattle.chamfer.proofs.Order.{backward_scan}
use Rattle.chamfer.proofs.Settling.{one_turn, backward_on}
use Rattle.chamfer.proofs.scans.backward_row.Goals as goal

pub loop-x-preserved : goal.loop-x-preserved
loop-x-preserved c =
    let after = c.loop-x.invariant in
    let x : ℕ = c.loop-x.x - 1 in
    let here : On (weighed c.args.chamfer) x c.args.y = search rules in
    let turned : CellTurned (weighed c.args.chamfer) x c.args.y half whole c.loop-x.words c.relax.new.words = search rules in
    backward_on (omega arith) (omega arith) after
    (one_turn backward_scan (omega arith) (omega arith) after.words here turned)
