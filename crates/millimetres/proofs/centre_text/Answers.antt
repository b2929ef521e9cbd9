-- `millimetres::centre_text` meets its contract: a short buffer is refused, then a bad pitch, and for a good one the
-- root's text is written. Assumes nothing.
use Rattle.std.proofs.Common.{arith}
use Rattle.millimetres.proofs.Telling.{text_told}
use Rattle.millimetres.proofs.centre_text.Goals as goal

pub returns : goal.returns
returns c = text_told c.in_ok-centre_root.ensures.root (omega arith) c.write.ensures
