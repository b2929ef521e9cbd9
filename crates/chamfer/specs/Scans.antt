-- What the two scans of kind 3 do to the words of a board. Each takes its own half of the table: a cell is left with the
-- least of its own word and of what its neighbours by those four steps offer, by the words that the scan leaves them.
-- Every cell starts with its first word, and after both scans it has its map word. Assumes nothing.
use Rattle.std.specs.Prelude.{◌≡◌, List, ℕ, zero, suc, ◌*◌, ◌≤◌, ◌<◌, length, get_or, drop}
use Rattle.rules.specs.Board.{cell}
use Rattle.rules.specs.Measures.{chamfer_kind}
use Rattle.rules.specs.Table.{forward, steps}
use Rattle.rules.specs.Tie.{MapWord}
use Rattle.chamfer_turn.specs.Neighbours.{Weighed, far, Words, On, word, Lowest}

-- "the four offsets of the forward scan and the four of the backward scan": the forward scan takes the table's steps
-- 0 .. half − 1, the backward scan its steps half .. whole − 1
abbrev pub half : ℕ
half = length forward

abbrev pub whole : ℕ
whole = length steps

-- The cells with the numbers t .. u − 1 are settled by the steps from .. to − 1: each has the least of its own word before
-- and of what its neighbours by those steps offer by their words after. Every other cell is as it was.
pub record Settled (b : Weighed) (from to t u : ℕ) (before after : List ℕ) : Type 0 where
  pub words : Words b after
  pub settled : (x y : ℕ) → On b x y → t ≤ cell b.board.w x y → cell b.board.w x y < u
      → Lowest b after x y from to (word b before x y) (word b after x y)
  pub kept_below : (x y : ℕ) → On b x y → cell b.board.w x y < t → word b after x y ≡ word b before x y
  pub kept_above : (x y : ℕ) → On b x y → u ≤ cell b.board.w x y → word b after x y ≡ word b before x y

-- a scan by those steps is over: every cell is settled
abbrev pub Scan : Weighed → ℕ → ℕ → List ℕ → List ℕ → Type 0
Scan b from to before after = Settled b from to 0 (b.board.w * b.board.h) before after

-- what a cell starts with: 0 if it is bored, `far` if it is sound
abbrev pub first_word : ℕ → ℕ
first_word zero = far
first_word (suc zero) = 0
first_word (suc (suc n)) = far

-- every cell has its first word
pub record Begun (picture words : List ℕ) : Type 0 where
  pub first : (c : ℕ) → c < length words → get_or words c 0 ≡ first_word (get_or picture c 0)

-- the map is made: each cell has its map word of kind 3, and what lies beyond the board's words is as it was
pub record Scanned (w h d1 d2 : ℕ) (picture before after : List ℕ) : Type 0 where
  pub words : (x y : ℕ) → x < w → y < h → MapWord chamfer_kind d1 d2 w h picture x y (get_or after (cell w x y) 0)
  pub as_long : length after ≡ length before
  pub untouched : drop (w * h) after ≡ drop (w * h) before
