-- `cost_lines::row::row_line` meets its contract: fill makes a line of the row's words and costs that can be read, and what
-- comes of it is the row's map. Assumes nothing.
use mathlib.Core.Path.{◌≡◌, ◌∙◌, sym}
use Prim.Native.Nat.{◌*◌}
use lib.ListN.{length}
use Rattle.std.proofs.Common.{rules}
use Rattle.rules.specs.Answers.{kind_number}
use Rattle.rows.proofs.RowLine.{words_part}
use Rattle.cost_lines.specs.Lines.{Ranked}
use Rattle.cost_lines.proofs.Picture.{accepted}
use Rattle.cost_lines.proofs.RowLine.{line_read, row_more}
use Rattle.cost_lines.proofs.row.row_line.Goals.{After-fill}
use Rattle.cost_lines.proofs.row.row_line.Goals as goal

-- the values are as many as the row's words
long : (c : After-fill) → length c.fill.new.values ≡ c.args.picture.now.board.w
long c = c.fill.auto.values ∙ c.requires.values_long

-- and theirs
ranked : (c : After-fill) → let a = c.args in let picture = a.picture.now in let w = picture.board.w in
    Ranked (kind_number picture.g.now.kind) a.y picture.costs.now (words_part (a.y * w) w a.scratch.now) c.fill.new.values
ranked c = record { each = λ i l. let h = c.fill.ensures i l in search rules }

pub line_out-requires : goal.line_out-requires
line_out-requires c =
    let p = c.requires in
    let known = (goal.at.line_out-requires c).After-fill in (
      line_read _ c.args.scratch.now (accepted c.args.picture.now) p.row_in p.columns p.scratch_long (long known)
          (ranked known),
      p.distances_long ∙ sym (long known),
      p.sites_long ∙ sym (long known),
    )

pub returns : goal.returns
returns c =
    let p = c.requires in
    let known = (goal.at.returns c).After-fill in
    row_more _ c.args.scratch.now (accepted c.args.picture.now) p.row_in p.columns p.scratch_long (long known)
    (ranked known) c.line_out.ensures
