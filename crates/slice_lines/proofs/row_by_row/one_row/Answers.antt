-- `slice_lines::row_by_row::one_row` meets its contract: a row that can't be done is left, and one that can is believed.
-- Assumes nothing.
use mathlib.Core.Path.{◌∙◌, sym}
use native.Mathlib.Omega.{arith}
use Rattle.slice_lines.proofs.Rows.{row_believed}
use Rattle.slice_lines.proofs.row_by_row.one_row.Goals as goal

pub row_line-requires : goal.row_line-requires
row_line-requires c =
    let p = c.requires in
    let b = c.args.board in (
      rw (c.cells.ensures, p.values_long) (row_believed b.sides p.place (sym (c.in_ok-row_stop.ensures _ p.place.at_is))),
      omega (arith, p.place.row_in, b.sides.height_to),
      p.distances_long ∙ sym p.values_long,
      p.sites_long ∙ sym p.values_long,
    )
