-- `slice_lines::row_by_row::row_stop` meets its contract: the most rows that a word asks for tells what stops the row.
-- Assumes nothing.
use mathlib.Core.Path.{sym}
use Rattle.slice_lines.proofs.Testing.{most_13, most_6, most_0}
use Rattle.slice_lines.proofs.row_by_row.row_stop.Goals as goal

pub returns-then-board-most : goal.returns-then-board-most
returns-then-board-most c = λ y e. sym (most_13 c.most_named-most.ensures _ y e c.if-board-most.true)

pub returns-then-most-eq0 : goal.returns-then-most-eq0
returns-then-most-eq0 c = λ y e. sym (most_6 c.most_named-most.ensures _ y e c.if-most-eq0.true)

pub returns : goal.returns
returns c = λ y e. sym (most_0 c.most_named-most.ensures _ y e c.if-board-most.false c.if-most-eq0.false)
