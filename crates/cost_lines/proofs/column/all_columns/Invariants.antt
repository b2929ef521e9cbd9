-- `cost_lines::column::all_columns` meets its contract. The loop's invariant: the columns before x have their words.
-- Assumes nothing.
use Rattle.rules.specs.Answers.{kind_number}
use Rattle.cost_lines.proofs.ColumnLine.{Sweeping}
use Rattle.cost_lines.proofs.column.all_columns.Given as goal

abbrev pub invariant-loop-x : goal.invariant-loop-x
invariant-loop-x l = Sweeping (kind_number l.picture.g.now.kind) l.picture.board.w
    l.picture.board.h l.picture.costs.now l.values l.winners l.scratch l.x
