-- `slice_lines::row_by_row::row_lines` meets its contract. The loop's invariant: the row lines before y are done, and
-- the line keeps its length. Assumes nothing.
use mathlib.Core.Path.{◌≡◌}
use lib.ListN.{length}
use Rattle.rules.specs.Answers.{kind_number}
use Rattle.rules.specs.Limits.{side_limit}
use Rattle.slice_lines.specs.Lines.{RowsDone}
use Rattle.slice_lines.proofs.row_by_row.row_lines.Given as goal

abbrev pub invariant-loop-y : goal.invariant-loop-y
invariant-loop-y l = record {
  done : RowsDone (kind_number l.g.kind) l.board.w l.board.h l.from l.y l.initial.scratch l.scratch
      l.initial.distances l.distances l.initial.sites l.sites;
  line_long : length l.line ≡ side_limit;
}
