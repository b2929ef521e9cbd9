-- `lane_search::best_lane` meets its contract: the width, a last flood at it, the walk down its labels, and the words that
-- are left cleared and marked. Assumes nothing.
use native.Mathlib.Omega.{arith}
use Rattle.lane_flood.specs.Around.{Lists}
use Rattle.lane_search.proofs.Lanes.{width_reached, laid}
use Rattle.lane_search.proofs.best_lane.Goals as goal

pub walk-cells-requires-clause-labelled : goal.walk-cells-requires-clause-labelled
walk-cells-requires-clause-labelled c =
    let p = c.requires in
    width_reached p.lists.board.rows p.lists.board.whole c.width-width.ensures c.flood.ensures

pub returns : goal.returns
returns c =
    let p = c.requires in
    let lists : Lists c.args.w c.args.words.now c.flood.new.labels c.walk-cells.new.path =
    record { board = p.lists.board; labels_long = omega arith; queue_long = omega arith } in
    laid lists p.from_inside c.width-width.ensures c.flood.ensures c.walk-cells.ensures c.set_all-2.new.words
    c.set_all.ensures c.set_all-2.auto.words c.set_all-2.ensures
