-- `chamfer::scans::backward_row` meets its contract. The loop's invariant: the cells of the row from column `x` on
-- are settled. Assumes nothing.
use Prim.Native.Nat.{ℕ, ◌+◌}
use Rattle.rules.specs.Board.{cell}
use Rattle.chamfer_turn.specs.Neighbours.{weighed}
use Rattle.chamfer.specs.Scans.{half, whole, Settled}
use Rattle.chamfer.proofs.scans.backward_row.Given as goal

abbrev pub invariant-loop-x : goal.invariant-loop-x
invariant-loop-x l =
    let w : ℕ = l.chamfer.board.w in
    Settled (weighed l.chamfer) half whole (cell w l.x l.y) (cell w 0 (l.y + 1)) l.initial.words l.words
