-- `bench_records::bore` meets its contract. The loop's invariant: the records before those that are left are bored.
-- Assumes nothing.
use mathlib.Core.Path.{◌≡◌}
use Rattle.std.specs.Slice.Iter.{chunks_exact_rest, chunks_exact_size}
use Rattle.bench_records.proofs.Boring.{Boring}
use Rattle.bench_records.proofs.bore.Given as goal

abbrev pub invariant-loop-record : goal.invariant-loop-record
invariant-loop-record l = record {
  size : chunks_exact_size l.record-iterator ≡ 4;
  boring : Boring l.file l.fn.picture (chunks_exact_rest l.record-iterator) l.picture l.bores;
}
