-- A record at the front of a list of bytes: 4 bytes, and then what is left. 11 holds of the list where it holds of the
-- record or of what is left, and the record's cell is the first that the list bores. Assumes nothing.
use mathlib.Core.Path.{◌≡◌, refl, ◌∙◌, sym, ap}
use mathlib.Core.Bool.{Bool, false, ◌||◌}
use mathlib.Core.List.{List, [], ◌∷◌, ◌++◌}
use Prim.Native.Nat.{ℕ, ◌<◌}
use native.Mathlib.Omega.{arith}
use lib.Dec.{leb}
use lib.ListN.{length, get_or, set}
use borrow.Author.Tests.{leb-false, lt-leb}
use Rattle.rules.specs.Limits.{bench_side}
use Rattle.rules.specs.Board.{cell}
use Rattle.rules.specs.BenchFile.{u16_of, bore_all, off_board}
use Rattle.rules.proofs.Refusals.{or_first, or_second}

-- the column and the row of a record
abbrev pub column_of : List ℕ → ℕ
column_of bytes = u16_of (get_or bytes 0 0) (get_or bytes 1 0)

abbrev pub row_of : List ℕ → ℕ
row_of bytes = u16_of (get_or bytes 2 0) (get_or bytes 3 0)

-- a list of 4 bytes is these
four : (l : List ℕ) → length l ≡ 4 → l ≡ get_or l 0 0 ∷ get_or l 1 0 ∷ get_or l 2 0 ∷ get_or l 3 0 ∷ []
four [] h = absurd (omega arith)
four (a ∷ []) h = absurd (omega arith)
four (a ∷ b ∷ []) h = absurd (omega arith)
four (a ∷ b ∷ c ∷ []) h = absurd (omega arith)
four (a ∷ b ∷ c ∷ d ∷ []) h = refl
four (a ∷ b ∷ c ∷ d ∷ e ∷ rest) h = absurd (omega arith)

module _ (first left : List ℕ) (whole : length first ≡ 4) where
  -- 11 holds of the list by this record or by what is left
  pub off_board_record : off_board (first ++ left)
      ≡ (leb bench_side (column_of first) || leb bench_side (row_of first) || off_board left)
  off_board_record = ap (λ bytes. off_board (bytes ++ left)) (four first whole)

  -- where it does not hold, this record is on the board, and it does not hold of what is left
  pub record_inside : off_board (first ++ left) ≡ false
      → (column_of first < bench_side) × (row_of first < bench_side) × (off_board left ≡ false)
  record_inside e =
      let column : Bool = leb bench_side (column_of first) in
      let row : Bool = leb bench_side (row_of first) in
      let all : (column || row || off_board left) ≡ false = sym off_board_record ∙ e in
      let here : (column || row) ≡ false = or_first (column || row) _ all in (
        leb-false bench_side _ (or_first column row here),
        leb-false bench_side _ (or_second column row here),
        or_second (column || row) _ all,
      )

  -- where this record is on the board, it holds if it does of what is left
  pub record_passes : column_of first < bench_side → row_of first < bench_side → off_board (first ++ left) ≡ off_board left
  record_passes column row = off_board_record ∙ rw (lt-leb bench_side _ column, lt-leb bench_side _ row)

  -- this record's cell is bored first
  pub bore_record : (picture : List ℕ) → bore_all (first ++ left) picture
      ≡ bore_all left (set picture (cell bench_side (column_of first) (row_of first)) 1)
  bore_record picture = ap (λ bytes. bore_all (bytes ++ left) picture) (four first whole)
