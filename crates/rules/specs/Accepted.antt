-- What an accepted call has: the facts that stand behind an answer of 0, for each entry. The laws of `proofs/Refusals.antt`
-- say that a call has them where no test of the entry holds. Assumes nothing.
use Rattle.std.specs.Prelude.{◌≡◌, ◌⊎◌, false, List, ℕ, ◌+◌, ◌*◌, ◌%◌, ◌≤◌, ◌<◌, length, get_or}
use Rattle.rules.specs.declared.Setting.{Setting}
use Rattle.rules.specs.Limits.{mark, kind_limit, cost_kind_limit, slice_kind_limit, cost_limit, column_limit, value_limit, clear_limit, file_limit, bench_side, text_bytes}
use Rattle.rules.specs.Board.{Sides, Bored, Unmarked}
use Rattle.rules.specs.Measures.{Weights, chamfer_kind}
use Rattle.rules.specs.BenchFile.{bored_by, off_board}
use Rattle.rules.specs.Knob.{Good}
use Rattle.rules.specs.Refusals.{scratch_words, bad_setting}

-- what a map call is lent: a picture of W·H words, and no buffer below its minimum
pub record Lent (w h picture distances sites scratch : ℕ) : Type 0 where
  pub picture_is : picture ≡ w * h
  pub distances_from : w * h ≤ distances
  pub sites_from : w * h ≤ sites
  pub scratch_from : scratch_words w h ≤ scratch

-- the lengths of a clear map's slices: equal, at least 1, and not over the limit
pub record Slices (squares clear : ℕ) : Type 0 where
  pub as_long : squares ≡ clear
  pub squares_from : 1 ≤ squares
  pub squares_to : squares ≤ clear_limit

-- every byte of a picture is 0 or 1
abbrev pub Bytes : List ℕ → Type 0
Bytes picture = (k : ℕ) → k < length picture → get_or picture k 0 ≤ 1

-- every cost is at most the limit, or the mark
abbrev pub Costs : List ℕ → Type 0
Costs costs = (k : ℕ) → k < length costs → (get_or costs k 0 ≤ cost_limit) ⊎ (get_or costs k 0 ≡ mark)

-- two columns, the first to the left, and their values, which a changeover may be asked of
pub record Comparable (i u a b : ℕ) : Type 0 where
  pub left : i < u
  pub column_to : u ≤ column_limit
  pub left_to : a ≤ value_limit
  pub right_to : b ≤ value_limit

-- some cell of the board has it
abbrev pub Somewhere : ℕ → ℕ → (ℕ → ℕ → Type 0) → Type 0
Somewhere w h Has = (x : ℕ) × (y : ℕ) × (x < w) × (y < h) × Has x y

-- what a picture call has that answers 0
pub record PictureAccepted (w h kind d1 d2 : ℕ) (picture : List ℕ) (distances sites scratch : ℕ) : Type 0 where
  pub sides : Sides w h
  pub kind_in : kind ≤ kind_limit
  pub weights : kind ≡ chamfer_kind → Weights d1 d2
  pub lent : Lent w h (length picture) distances sites scratch
  pub bytes : Bytes picture
  pub bored : Somewhere w h (Bored w picture)

-- what a slice call has whose start refuses nothing
pub record SliceAccepted (w h kind line picture distances sites scratch : ℕ) : Type 0 where
  pub sides : Sides w h
  pub kind_in : kind ≤ slice_kind_limit
  pub lent : Lent w h picture distances sites scratch
  pub line_in : line ≤ w + h

-- what a cost call has that answers 0
pub record CostAccepted (w h kind : ℕ) (costs : List ℕ) (distances sites scratch : ℕ) : Type 0 where
  pub sides : Sides w h
  pub kind_in : kind ≤ cost_kind_limit
  pub lent : Lent w h (length costs) distances sites scratch
  pub costs_in : Costs costs
  pub unmarked : Somewhere w h (Unmarked w costs)

-- what a lane call has that answers 0
pub record LaneAccepted (w h : ℕ) (picture : List ℕ) (from to distances sites scratch path : ℕ) : Type 0 where
  pub sides : Sides w h
  pub lent : Lent w h (length picture) distances sites scratch
  pub path_from : w * h ≤ path
  pub bytes : Bytes picture
  pub bored : Somewhere w h (Bored w picture)
  pub from_in : from < w * h
  pub to_in : to < w * h

-- what a clear map call has that answers 0
pub record ClearAccepted (s : Setting) (squares clear : ℕ) : Type 0 where
  pub slices : Slices squares clear
  pub setting : bad_setting s ≡ false

-- what a bench file has that answers 0
pub record FileAccepted (bytes : List ℕ) : Type 0 where
  pub whole : length bytes % 4 ≡ 0
  pub length_to : length bytes ≤ file_limit
  pub inside : off_board bytes ≡ false
  pub bored : Somewhere bench_side bench_side (Bored bench_side (bored_by bytes))

-- what a text call has that answers 0, by the pitch's word
pub record TextAccepted (pitch bytes : ℕ) : Type 0 where
  pub bytes_from : text_bytes ≤ bytes
  pub a : ℕ
  pub pitch_good : Good pitch a
