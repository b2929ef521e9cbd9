-- `lane::accepted_lane` meets its contract: the map is made, and lends its words to the best lane. Assumes nothing.
use mathlib.Core.Path.{sym}
use Prim.Native.Nat.{◌*◌, ◌≤◌}
use lib.ListN.{length}
use lib.Seq.{length-take-le}
use Rattle.rules.specs.Calls.{buffers, PictureAfter}
use Rattle.lane.proofs.Calling.{map_accepted, words_room, scratch_room, askable, lane_after}
use Rattle.lane.proofs.accepted_lane.Goals.{After-row_map}
use Rattle.lane.proofs.accepted_lane.Goals as goal

-- the map is made
mapped : (c : After-row_map) → let a = c.args in
    PictureAfter a.board.w a.board.h 0 0 0 a.picture.now
    (buffers a.distances.now a.sites.now a.scratch.now)
    (buffers c.row_map.new.distances c.row_map.new.sites c.row_map.new.scratch)
mapped c = c.row_map.ensures 0 0

-- the map's lists have room for the board
words_in : (c : After-row_map) → let a = c.args in
    a.board.w * a.board.h ≤ length c.row_map.new.distances
words_in c =
    let a = c.args in
    words_room a.board.w a.board.h a.picture.now a.from a.to a.path.now c.requires (mapped c)

scratch_in : (c : After-row_map) → let a = c.args in
    a.board.w * a.board.h ≤ length c.row_map.new.scratch
scratch_in c =
    let a = c.args in
    scratch_room a.board.w a.board.h a.picture.now a.from a.to a.path.now c.requires (mapped c)

pub row_map-requires : goal.row_map-requires
row_map-requires c = map_accepted c.requires

pub slice_bounds-best_lane-end : goal.slice_bounds-best_lane-end
slice_bounds-best_lane-end c = rw c.cells-n.ensures (words_in (goal.at.slice_bounds-best_lane-end c).After-row_map)

pub slice_bounds-best_lane-end-2 : goal.slice_bounds-best_lane-end-2
slice_bounds-best_lane-end-2 c = rw c.cells-n.ensures (sym (length-take-le _ _ (words_in (goal.at.slice_bounds-best_lane-end-2 c).After-row_map)))

pub slice_bounds-best_lane-end-3 : goal.slice_bounds-best_lane-end-3
slice_bounds-best_lane-end-3 c = rw c.cells-n.ensures (scratch_in (goal.at.slice_bounds-best_lane-end-3 c).After-row_map)

pub slice_bounds-best_lane-end-4 : goal.slice_bounds-best_lane-end-4
slice_bounds-best_lane-end-4 c = rw c.cells-n.ensures (sym (length-take-le _ _ (scratch_in (goal.at.slice_bounds-best_lane-end-4 c).After-row_map)))

pub slice_bounds-best_lane-end-6 : goal.slice_bounds-best_lane-end-6
slice_bounds-best_lane-end-6 c = rw c.cells-n.ensures (sym (length-take-le _ _ c.requires.path_from))

pub best_lane-requires : goal.best_lane-requires
best_lane-requires c =
    let a = c.args in
    let (lists, from_inside, to_inside) =
    askable a.board.w a.board.h a.picture.now a.from a.to a.path.now c.requires (mapped (goal.at.best_lane-requires c).After-row_map) in
    rw c.cells-n.ensures (record { lists = lists; from_inside = from_inside; to_inside = to_inside })

pub returns : goal.returns
returns c =
    let a = c.args in
    let laid = rw c.cells-n.ensures at c.best_lane.ensures in
    let labels = rw c.cells-n.ensures at c.best_lane.auto.labels in
    let path = rw c.cells-n.ensures at c.best_lane.auto.path in
    rw c.cells-n.ensures
    (lane_after a.board.w a.board.h a.picture.now a.from a.to a.path.now c.requires (mapped (goal.at.returns c).After-row_map)
    laid labels path)
