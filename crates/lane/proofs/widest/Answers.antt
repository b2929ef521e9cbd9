-- `lane::widest` meets its contract: a call that is refused leaves everything, and past the tests the lane is found. Assumes
-- nothing.
use mathlib.Core.Path.{sym}
use Rattle.rules.proofs.Refusals.{lane_accepted}
use Rattle.lane.proofs.widest.Goals as goal

pub accepted_lane-course-requires : goal.accepted_lane-course-requires
accepted_lane-course-requires c =
    let b = c.in_ok-board.ensures in
    rw (b.board.0, b.board.1) (lane_accepted _ _ _ _ _ _ _ _ _ (sym b.number))
