-- `cost_lines::column::scatter` meets its contract. The loop's invariant: the words of the column above y are put, and
-- those of every other column stay. Assumes nothing.
use lib.ListN.{get_or}
use Rattle.cost_lines.specs.Lines.{winner_word}
use Rattle.cost_lines.proofs.Putting.{Putting}
use Rattle.cost_lines.proofs.column.scatter.Given as goal

abbrev pub invariant-loop-y : goal.invariant-loop-y
invariant-loop-y l = Putting l.w l.x (λ k. winner_word l.values (get_or l.winners k 0)) l.initial.words l.words l.y
