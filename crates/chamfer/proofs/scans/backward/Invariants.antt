-- `chamfer::scans::backward` meets its contract. The loop's invariant: the rows from row `y` on are settled.
-- Assumes nothing.
use Prim.Native.Nat.{ℕ, ◌*◌}
use Rattle.rules.specs.Board.{cell}
use Rattle.chamfer_turn.specs.Neighbours.{weighed}
use Rattle.chamfer.specs.Scans.{half, whole, Settled}
use Rattle.chamfer.proofs.scans.backward.Given as goal

abbrev pub invariant-loop-y : goal.invariant-loop-y
invariant-loop-y l =
    let w : ℕ = l.chamfer.board.w in
    Settled (weighed l.chamfer) half whole (cell w 0 l.y) (w * l.chamfer.board.h) l.initial.words l.words
