-- `chamfer::scans::forward` meets its contract. The loop's invariant: the rows before row `y` are settled.
-- Assumes nothing.
use Rattle.rules.specs.Board.{cell}
use Rattle.chamfer_turn.specs.Neighbours.{weighed}
use Rattle.chamfer.specs.Scans.{half, Settled}
use Rattle.chamfer.proofs.scans.forward.Given as goal

abbrev pub invariant-loop-y : goal.invariant-loop-y
invariant-loop-y l = Settled (weighed l.chamfer) 0 half 0 (cell l.chamfer.board.w 0 l.y) l.initial.words l.words
