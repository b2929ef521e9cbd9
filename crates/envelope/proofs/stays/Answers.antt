-- `envelope::stays` meets its contract: the two heights are compared as they are. Assumes nothing.
use mathlib.Core.Path.{ap₂}
use lib.Dec.{leb}
use Rattle.envelope.proofs.stays.Goals as goal

pub height-requires-2 : goal.height-requires-2
height-requires-2 c = let p = c.requires in (p.0.line, p.1, p.3)

pub returns : goal.returns
returns c = ap₂ leb c.height.ensures c.height-2.ensures
