-- "The bench file": the records of a list of bytes, the picture that they bore, the three numbers, and the text of the
-- answer. Assumes nothing.
use Rattle.std.specs.Prelude.{◌≡◌, Bool, false, ◌||◌, cond, List, [], ◌∷◌, ◌++◌, ℕ, zero, suc, ◌+◌, ◌*◌, ◌/◌, ◌%◌, ◌≤◌, ◌<◌, leb, ltb, eqb, replicate, set}
use Rattle.rules.specs.Limits.{bench_side}
use Rattle.rules.specs.Board.{cell}
use Rattle.rules.specs.Tie.{MapWord}

-- "little-endian u16"
abbrev pub u16_of : ℕ → ℕ → ℕ
u16_of low high = low + 256 * high

-- "records of 4 bytes, no header, x then y": each record bores its cell of the picture, so that "a repeated record
-- counts once". What is left of fewer than 4 bytes is no record.
abbrev pub bore_all : List ℕ → List ℕ → List ℕ
bore_all [] picture = picture
bore_all (a ∷ []) picture = picture
bore_all (a ∷ b ∷ []) picture = picture
bore_all (a ∷ b ∷ c ∷ []) picture = picture
bore_all (a ∷ b ∷ c ∷ d ∷ rest) picture = bore_all rest (set picture (cell bench_side (u16_of a b) (u16_of c d)) 1)

-- the picture of a file, on a 64 by 64 board that is sound before
abbrev pub bored_by : List ℕ → List ℕ
bored_by bytes = bore_all bytes (replicate (bench_side * bench_side) 0)

-- 11: "a file coordinate above 63"
abbrev pub off_board : List ℕ → Bool
off_board [] = false
off_board (a ∷ []) = false
off_board (a ∷ b ∷ []) = false
off_board (a ∷ b ∷ c ∷ []) = false
off_board (a ∷ b ∷ c ∷ d ∷ rest) = leb bench_side (u16_of a b) || leb bench_side (u16_of c d) || off_board rest

-- `sites`: how many cells are bored
abbrev pub bores : List ℕ → ℕ
bores [] = 0
bores (b ∷ bs) = cond (eqb b 1) 1 0 + bores bs

-- the kind 0 word of a cell of the bench's board
abbrev pub BenchWord : List ℕ → ℕ → ℕ → ℕ → Type 0
BenchWord picture x y d = MapWord 0 0 0 bench_side bench_side picture x y d

-- "`farthest` is the greatest kind 0 word, `cell` the least cell number that has it."
pub record Farthest (picture : List ℕ) (farthest number : ℕ) : Type 0 where
  pub x : ℕ
  pub y : ℕ
  pub column_in : x < bench_side
  pub row_in : y < bench_side
  pub number_is : number ≡ cell bench_side x y
  pub attained : BenchWord picture x y farthest
  pub greatest : (x' y' d : ℕ) → x' < bench_side → y' < bench_side → BenchWord picture x' y' d → d ≤ farthest
  pub least_cell : (x' y' : ℕ) → x' < bench_side → y' < bench_side → BenchWord picture x' y' farthest
      → number ≤ cell bench_side x' y'

-- a number in decimal digits, as bytes; a u32 word has at most ten
abbrev pub digits : ℕ → ℕ → List ℕ → List ℕ
digits zero n after = after
digits (suc fuel) n after = cond (ltb n 10) ((48 + n) ∷ after) (digits fuel (n / 10) ((48 + n % 10) ∷ after))

abbrev pub decimal : ℕ → List ℕ
decimal n = digits 10 n []

-- a line: the word's bytes, a space, the number, the line's end
abbrev pub line : List ℕ → ℕ → List ℕ
line word n = word ++ (32 ∷ []) ++ decimal n ++ (10 ∷ [])

-- "sites", "farthest", "cell", "refused"
abbrev pub sites_word : List ℕ
sites_word = 115 ∷ 105 ∷ 116 ∷ 101 ∷ 115 ∷ []

abbrev pub farthest_word : List ℕ
farthest_word = 102 ∷ 97 ∷ 114 ∷ 116 ∷ 104 ∷ 101 ∷ 115 ∷ 116 ∷ []

abbrev pub cell_word : List ℕ
cell_word = 99 ∷ 101 ∷ 108 ∷ 108 ∷ []

abbrev pub refused_word : List ℕ
refused_word = 114 ∷ 101 ∷ 102 ∷ 117 ∷ 115 ∷ 101 ∷ 100 ∷ []

-- "It prints three lines, or one line of `refused`, a space and the number"
abbrev pub text : ℕ → ℕ → ℕ → ℕ → List ℕ
text zero sites farthest number = line sites_word sites ++ line farthest_word farthest ++ line cell_word number
text (suc n) sites farthest number = line refused_word (suc n)
