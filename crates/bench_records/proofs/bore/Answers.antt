use mathlib.Core.Path.{◌∙◌}
use native.Mathlib.Omega.{arith}
use Rattle.bench_records.proofs.Counting.{bores_few}
use Rattle.bench_records.proofs.Boring.{boring_more}
use Rattle.bench_records.proofs.bore.Goals as goal

pub overflow_add-bores : goal.overflow_add-bores
overflow_add-bores c = omega (arith, bores_few c.bore_cell.new.picture)

pub loop-record-preserved : goal.loop-record-preserved
loop-record-preserved c =
    let cut = c.in-Some.ensures.steps in
    let l = c.loop-record.invariant in
    record {
      size = cut.0 ∙ l.size;
      boring = boring_more c.in-Some.record.now l.boring cut.1.0 (cut.1.1 ∙ l.size) c.coordinate-x.ensures
          c.coordinate-y.ensures (rw c.from-bores.ensures c.bore_cell.ensures);
    }
