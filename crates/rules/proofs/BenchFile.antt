-- The picture of a bench file and the text of its answer. A record sets a cell to 1 and changes no other, so the
-- picture stays 64 by 64 and holds nothing but 0 and 1, whatever the bytes are. The greatest word and the least cell
-- that has it are one pair only: each of two claims bounds the other. A record whose coordinates differ tells x from y
-- and the low byte from the high one. The text is checked against two answers written out byte by byte.
-- Assumes nothing.
use mathlib.Core.Path.{◌≡◌, refl, ◌∙◌, sym, subst}
use mathlib.Core.List.{List, [], ◌∷◌}
use Prim.Native.Nat.{ℕ, zero, suc, ◌*◌, ◌≤◌, zero-le}
use native.Mathlib.Nat.{le_refl, le_antisymm}
use lib.ListN.{length, get_or, set, replicate, length-set, length-replicate}
use Rattle.rules.specs.Limits.{bench_side}
use Rattle.rules.specs.BenchFile.{u16_of, bore_all, bored_by, Farthest, text}

-- records leave a picture as long as it was
bore_all_length : (bytes picture : List ℕ) → length (bore_all bytes picture) ≡ length picture
bore_all_length [] picture = refl
bore_all_length (a ∷ []) picture = refl
bore_all_length (a ∷ b ∷ []) picture = refl
bore_all_length (a ∷ b ∷ c ∷ []) picture = refl
bore_all_length (a ∷ b ∷ c ∷ d ∷ rest) picture = bore_all_length rest _ ∙ length-set picture _ 1

-- a file's picture has every cell of the board
pub bored_length : (bytes : List ℕ) → length (bored_by bytes) ≡ bench_side * bench_side
bored_length bytes =
    let cells : ℕ = bench_side * bench_side in
    bore_all_length bytes (replicate cells 0) ∙ length-replicate {A = ℕ} cells 0

-- a cell set to 1 leaves no word above 1 where there was none
set_keeps : (l : List ℕ) (i : ℕ) → ((k : ℕ) → get_or l k 0 ≤ 1) → (k : ℕ) → get_or (set l i 1) k 0 ≤ 1
set_keeps [] i small k = zero-le
set_keeps (b ∷ l) zero small zero = le_refl 1
set_keeps (b ∷ l) zero small (suc k) = small (suc k)
set_keeps (b ∷ l) (suc i) small zero = small zero
set_keeps (b ∷ l) (suc i) small (suc k) = set_keeps l i (λ m. small (suc m)) k

-- nor do records
bore_all_keeps : (bytes picture : List ℕ) → ((k : ℕ) → get_or picture k 0 ≤ 1) → (k : ℕ)
    → get_or (bore_all bytes picture) k 0 ≤ 1
bore_all_keeps [] picture small = small
bore_all_keeps (a ∷ []) picture small = small
bore_all_keeps (a ∷ b ∷ []) picture small = small
bore_all_keeps (a ∷ b ∷ c ∷ []) picture small = small
bore_all_keeps (a ∷ b ∷ c ∷ d ∷ rest) picture small = bore_all_keeps rest _ (set_keeps picture _ small)

-- a sound board holds no word above 1
sound_keeps : (n k : ℕ) → get_or (replicate n 0) k 0 ≤ 1
sound_keeps zero k = zero-le
sound_keeps (suc n) zero = zero-le
sound_keeps (suc n) (suc k) = sound_keeps n k

-- every byte of a file's picture is 0 or 1
pub bored_bytes : (bytes : List ℕ) (k : ℕ) → get_or (bored_by bytes) k 0 ≤ 1
bored_bytes bytes =
    let cells : ℕ = bench_side * bench_side in
    bore_all_keeps bytes (replicate cells 0) (sound_keeps cells)

-- of two claims the first names no greater word
no_farther : {picture : List ℕ} {d d' n n' : ℕ} → Farthest picture d n → Farthest picture d' n' → d ≤ d'
no_farther {d = d} f g = g.greatest f.x f.y d f.column_in f.row_in f.attained

-- nor, where the word is the same, a greater cell
no_later : {picture : List ℕ} {d n n' : ℕ} → Farthest picture d n → Farthest picture d n' → n ≤ n'
no_later f g = rw g.number_is (f.least_cell g.x g.y g.column_in g.row_in g.attained)

-- the greatest word and the least cell that has it are one pair
pub farthest_unique : {picture : List ℕ} {d d' n n' : ℕ} → Farthest picture d n → Farthest picture d' n'
    → (d ≡ d') × (n ≡ n')
farthest_unique {picture} {d} {d'} {n} {n'} f g =
    let same : d ≡ d' = le_antisymm (no_farther f g) (no_farther g f) in
    let moved : Farthest picture d n' = subst (λ (e : ℕ). Farthest picture e n') (sym same) g in
    (same, le_antisymm (no_later f moved) (no_later moved f))

-- "x then y": the record 1 0 2 0 bores the cell (1, 2), whose number is 129, and no other
pub record_bores : bored_by (1 ∷ 0 ∷ 2 ∷ 0 ∷ []) ≡ set (replicate 4096 0) 129 1
record_bores = refl

-- "little-endian u16": the low byte is first
pub low_first : (u16_of 1 0 ≡ 1) × (u16_of 0 1 ≡ 256)
low_first = (refl, refl)

-- "sites 1", "farthest 7938", "cell 4095", a line each
pub sample_text : text 0 1 7938 4095
    ≡ 115 ∷ 105 ∷ 116 ∷ 101 ∷ 115 ∷ 32 ∷ 49 ∷ 10
    ∷ 102 ∷ 97 ∷ 114 ∷ 116 ∷ 104 ∷ 101 ∷ 115 ∷ 116 ∷ 32 ∷ 55 ∷ 57 ∷ 51 ∷ 56 ∷ 10
    ∷ 99 ∷ 101 ∷ 108 ∷ 108 ∷ 32 ∷ 52 ∷ 48 ∷ 57 ∷ 53 ∷ 10 ∷ []
sample_text = refl

-- "refused 6" and the line's end
pub refused_text : text 6 0 0 0 ≡ 114 ∷ 101 ∷ 102 ∷ 117 ∷ 115 ∷ 101 ∷ 100 ∷ 32 ∷ 54 ∷ 10 ∷ []
refused_text = refl
