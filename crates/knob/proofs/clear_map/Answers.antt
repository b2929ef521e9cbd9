-- `knob::clear_map` meets its contract: row 4 is tested first, then the setting is opened, and bytes are written only
-- for a setting that opens. What is left to say here is that the clear map is then as long as the squares.
-- Assumes nothing.
use Rattle.std.proofs.Common.{sym}
use Rattle.rules.proofs.Refusals.{slices_passes}
use Rattle.knob.proofs.clear_map.Goals as goal

pub fill-requires-clause-as_long : goal.fill-requires-clause-as_long
fill-requires-clause-as_long c = (slices_passes _ _ (sym c.if-bad_slices.ensures)).as_long
