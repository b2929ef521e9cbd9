-- `cost_lines::column::gather` meets its contract. The loop's invariant: the values before j are those of their cells.
-- Assumes nothing.
use Rattle.rules.specs.Board.{cost_at}
use Rattle.rules.proofs.Filling.{Filling}
use Rattle.cost_lines.specs.Lines.{cell_value}
use Rattle.cost_lines.proofs.column.gather.Given as goal

abbrev pub invariant-loop-j : goal.invariant-loop-j
invariant-loop-j l = Filling (λ k. cell_value (cost_at l.picture.board.w l.picture.costs.now l.x k)) l.initial.values l.values l.j
