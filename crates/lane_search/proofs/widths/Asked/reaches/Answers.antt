-- `lane_search::widths::Asked::reaches` meets its contract: a labelled cell has a lane to the far end, and a cell
-- with no label none as wide. Assumes nothing.
use mathlib.Core.Path.{refl}
use Rattle.lane_search.proofs.Lanes.{flood_answers}
use Rattle.lane_search.proofs.widths.Asked.reaches.Goals as goal

pub returns : goal.returns
returns c = flood_answers c.flood.ensures c.args.self.now.from_inside refl
