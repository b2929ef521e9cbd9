-- `rows::row_line` meets its contract: fill makes a line of the row's words that can be read, and what comes of it is the
-- row of a picture. Assumes nothing.
use mathlib.Core.Path.{◌∙◌, sym}
use lib.ListN.{length}
use Rattle.rows.specs.Row.{Believed, Filled}
use Rattle.rows.proofs.RowLine.{words_part, words_length, words_named, line_read, row_made}
use Rattle.rows.proofs.row_line.Goals.{After-fill}
use Rattle.std.proofs.Common.{rules}
use Rattle.rows.proofs.row_line.Goals as goal

-- the scratch is asked for a line as long as the filled one
believed : (c : After-fill) → let a = c.args in
    Believed a.at a.tail a.scratch.now (length c.fill.new.values)
believed c = rw c.fill.auto.values c.requires.0

-- and so are its words
made : (c : After-fill) → let a = c.args in let values = c.fill.new.values in
    Filled a.g.now.kind a.y (words_part a.at (length values) a.scratch.now) values
made c = rw c.fill.auto.values (record { each = λ i l. let h = c.fill.ensures i l in search rules })

pub fill-requires-clause-as_long : goal.fill-requires-clause-as_long
fill-requires-clause-as_long c = sym (words_length c.requires.0)

pub fill-requires-clause-each : goal.fill-requires-clause-each
fill-requires-clause-each c = let p = c.requires in λ i l _ _ _ _ _ _. (p.1, words_named p.0 i l)

pub line_out-requires : goal.line_out-requires
line_out-requires c =
    let p = c.requires in
    let long = sym c.fill.auto.values in
    (line_read (believed (goal.at.line_out-requires c).After-fill) p.1 (made (goal.at.line_out-requires c).After-fill), p.2 ∙ long, p.3 ∙ long)

pub returns : goal.returns
returns c = rw c.fill.auto.values at (row_made (believed (goal.at.returns c).After-fill) c.requires.1 (made (goal.at.returns c).After-fill) c.line_out.ensures)
