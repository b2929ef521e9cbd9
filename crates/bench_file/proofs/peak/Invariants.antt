-- `bench_file::peak` meets its contract. The loop's invariant: `best` is the peak of the words before k. Assumes
-- nothing.
use Rattle.bench_file.specs.Reading.{Peak}
use Rattle.bench_file.proofs.peak.Given as goal

abbrev pub invariant-loop-k : goal.invariant-loop-k
invariant-loop-k l = Peak l.words l.k l.best
