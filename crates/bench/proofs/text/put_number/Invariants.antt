-- `bench::text::put_number` meets its contract. The loop's invariant: the digits behind `at` have been put. The measure
-- is what is left of the number. Assumes nothing.
use Rattle.bench.proofs.Putting.{Spelling}
use Rattle.bench.proofs.text.put_number.Given as goal

abbrev pub invariant-loop-rest : goal.invariant-loop-rest
invariant-loop-rest l = Spelling l.end l.number l.initial.out l.out l.at l.rest

abbrev pub decreases-loop-rest : goal.decreases-loop-rest
decreases-loop-rest l = l.rest
