-- `maps::lines::all_rows` meets its contract. The loop's invariant: the rows below y are made, and the line keeps its
-- length. Assumes nothing.
use mathlib.Core.Path.{◌≡◌}
use lib.ListN.{length}
use Rattle.rules.specs.Limits.{side_limit}
use Rattle.maps.specs.Rows.{RowsMade}
use Rattle.maps.proofs.lines.all_rows.Given as goal

abbrev pub invariant-loop-y : goal.invariant-loop-y
invariant-loop-y l =
    RowsMade l.g.kind l.board.w l.board.h l.y l.initial.scratch l.scratch l.initial.distances l.distances l.initial.sites l.sites
    × (length l.line ≡ side_limit)
