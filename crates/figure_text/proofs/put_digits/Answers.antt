use Rattle.std.proofs.Common.{arith}
use Rattle.figure_text.proofs.Writing.{placing_more}
use Rattle.figure_text.proofs.put_digits.Goals as goal

pub loop-i-preserved : goal.loop-i-preserved
loop-i-preserved c = placing_more c.loop-i.invariant (omega arith) (omega arith)
