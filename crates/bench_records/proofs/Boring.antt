-- Boring record after record. What is left of the bytes bores what is still to bore, so that together with the picture so
-- far it gives the whole picture; the count so far is of the picture so far. Assumes nothing.
use mathlib.Core.Path.{◌≡◌, ◌∙◌, sym}
use mathlib.Core.Bool.{false}
use mathlib.Core.List.{List, ◌++◌}
use Prim.Native.Nat.{ℕ, ◌+◌}
use native.Mathlib.Omega.{arith}
use lib.ListN.{length}
use Rattle.rules.specs.Limits.{bench_side}
use Rattle.rules.specs.Board.{cell}
use Rattle.rules.specs.BenchFile.{bore_all, off_board, bores}
use Rattle.bench_records.specs.Boring.{BoredCell}
use Rattle.bench_records.proofs.FileRecords.{column_of, row_of, record_inside, bore_record}

-- the records before those that are left are bored
pub record Boring (bytes before left now : List ℕ) (fresh : ℕ) : Type 0 where
  pub inside : off_board left ≡ false
  pub bored : bore_all left now ≡ bore_all bytes before
  pub counted : fresh + bores before ≡ bores now

-- one record more
pub boring_more : (first : List ℕ) {bytes before all left now after : List ℕ} {fresh new x y : ℕ}
    → Boring bytes before all now fresh → all ≡ first ++ left → length first ≡ 4 → x ≡ column_of first → y ≡ row_of first
    → BoredCell (cell bench_side x y) now after new → Boring bytes before left after (fresh + new)
boring_more first {left = left} {now = now} B split whole column row C =
    record {
      inside = (record_inside first left whole (rw split at B.inside)).2;
      bored = rw (C.picture_is, column, row) (sym (bore_record first left whole now) ∙ rw split at B.bored);
      counted = omega (arith, B.counted, C.counted);
    }
