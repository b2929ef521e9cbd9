-- `cost_lines::row::all_rows` meets its contract. The loop's invariant: the rows above y have their map, and the column
-- words are as they were. Assumes nothing.
use Rattle.rules.specs.Answers.{kind_number}
use Rattle.cost_lines.proofs.RowLine.{Crossing}
use Rattle.cost_lines.proofs.row.all_rows.Given as goal

abbrev pub invariant-loop-y : goal.invariant-loop-y
invariant-loop-y l = Crossing (kind_number l.picture.g.now.kind) l.picture.board.w
    l.picture.board.h l.picture.costs.now l.values l.scratch l.distances l.sites l.y
