-- `chamfer::scans::forward_row` meets its contract. The loop's invariant: the cells of the row before column `x`
-- are settled. Assumes nothing.
use Prim.Native.Nat.{ℕ}
use Rattle.rules.specs.Board.{cell}
use Rattle.chamfer_turn.specs.Neighbours.{weighed}
use Rattle.chamfer.specs.Scans.{half, Settled}
use Rattle.chamfer.proofs.scans.forward_row.Given as goal

abbrev pub invariant-loop-x : goal.invariant-loop-x
invariant-loop-x l =
    let w : ℕ = l.chamfer.board.w in
    Settled (weighed l.chamfer) 0 half (cell w 0 l.y) (cell w l.x l.y) l.initial.words l.words
