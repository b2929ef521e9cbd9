use Rattle.std.proofs.Common.{arith}
use Rattle.bench.proofs.Putting.{spelling_none, spelling_more}
use Rattle.bench.proofs.text.put_number.Goals as goal

pub loop-rest-init : goal.loop-rest-init
loop-rest-init c = spelling_none c.requires.0 (omega arith)

pub loop-rest-preserved : goal.loop-rest-preserved
loop-rest-preserved c = spelling_more c.loop-rest.invariant c.requires.1 c.requires.0 c.loop-rest-test.true
