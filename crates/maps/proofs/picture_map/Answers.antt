-- `maps::picture_map` meets its contract: a call that is refused leaves everything, and past the tests the map is made.
-- Assumes nothing.
use mathlib.Core.Path.{sym}
use Rattle.rules.proofs.Refusals.{picture_accepted}
use Rattle.maps.proofs.picture_map.Goals as goal

pub accepted_map-requires : goal.accepted_map-requires
accepted_map-requires c =
    let b = c.in_ok-board.ensures in
    rw (b.board.0, b.board.1) (picture_accepted _ _ _ _ _ _ _ _ _ (sym b.number))
