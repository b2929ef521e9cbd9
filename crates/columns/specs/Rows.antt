-- What is left row by row: of the words by a sweep, and of the bytes by their test. A row is known by its start, the
-- number of its first cell. Assumes nothing.
use Rattle.std.specs.Prelude.{◌≡◌, List, ℕ, ◌+◌, ◌≤◌, ◌<◌, length, get_or}
use Rattle.rules.specs.Limits.{mark}
use Rattle.rules.specs.Board.{cell, away, Bored}
use Rattle.rules.specs.Columns.{ColumnWord}
use Rattle.columns.specs.Words.{Above, Carried, Nearer}

-- in one row the words of the columns a up to b are what they are to be, and every other word is as it was
pub record BandRow (start a b : ℕ) (Is : ℕ → ℕ → Type 0) (before after : List ℕ) : Type 0 where
  pub words : (x : ℕ) → a ≤ x → x < b → Is x (get_or after (start + x) 0)
  pub others : (k : ℕ) → ((x : ℕ) → a ≤ x → x < b → k ≡ start + x → ⊥) → get_or after k 0 ≡ get_or before k 0
  pub as_long : length after ≡ length before

-- the same of the rows c up to d
pub record BandRows (w a b c d : ℕ) (Is : ℕ → ℕ → ℕ → Type 0) (before after : List ℕ) : Type 0 where
  pub words : (x y : ℕ) → a ≤ x → x < b → c ≤ y → y < d → Is x y (get_or after (cell w x y) 0)
  pub others : (k : ℕ) → ((x y : ℕ) → a ≤ x → x < b → c ≤ y → y < d → k ≡ cell w x y → ⊥) →
      get_or after k 0 ≡ get_or before k 0
  pub as_long : length after ≡ length before

-- the word of column x in the top row after a step down, with nothing above it
abbrev pub Topped : List ℕ → ℕ → ℕ → Type 0
Topped picture x word = Carried (get_or picture x 0) 0 mark word

-- the word of column x in row y after a step down from the row that begins at `above`
abbrev pub Stepped : ℕ → ℕ → ℕ → List ℕ → List ℕ → ℕ → ℕ → Type 0
Stepped above start y picture words x word = Carried (get_or picture (start + x) 0) y (get_or words (above + x) 0) word

-- the word of column x in row y after a step up from the row that begins at `below`
abbrev pub Lifted : ℕ → ℕ → ℕ → List ℕ → ℕ → ℕ → Type 0
Lifted start below y words x word = Nearer y (get_or words (start + x) 0) (get_or words (below + x) 0) word

-- what the down sweep leaves in a cell: the last bored row at or above it, or the mark
abbrev pub Lowered : ℕ → List ℕ → ℕ → ℕ → ℕ → Type 0
Lowered w picture x y word = Above (Bored w picture x) y word

-- what the up sweep leaves in a cell: the column's word for every picture whose down sweep left the column as it was
-- before
pub record Raised (w h : ℕ) (before : List ℕ) (x y word : ℕ) : Type 0 where
  pub column_word : (picture : List ℕ) →
      ((y' : ℕ) → y' < h → Lowered w picture x y' (get_or before (cell w x y') 0)) →
      ColumnWord h (Bored w picture x) (away y) word

-- the greatest byte of a row's columns a up to b, or 0 where there is no column
pub record Most (start a b : ℕ) (picture : List ℕ) (r : ℕ) : Type 0 where
  pub greatest : (x : ℕ) → a ≤ x → x < b → get_or picture (start + x) 0 ≤ r
  pub attained : 0 < r → (x : ℕ) × (a ≤ x) × (x < b) × (get_or picture (start + x) 0 ≡ r)
