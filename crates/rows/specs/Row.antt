-- What the row line says: of the words of one row, and of nothing else. It is cut in two: what fill makes of the words, and
-- what comes of a line that is filled, whoever filled it. Assumes nothing.
use Rattle.std.specs.Prelude.{◌≡◌, ◌⊎◌, ◌≢◌, cond, List, ℕ, ◌+◌, ◌^◌, ◌≤◌, ◌<◌, eqb, length, get_or}
use Rattle.rules.specs.Limits.{side_limit, mark, line_limit}
use Rattle.rules.specs.Board.{cell, away}
use Rattle.rules.specs.Columns.{RowWord}
use Rattle.rules.specs.Calls.{Beyond}
use Rattle.rules.specs.declared.kind.LineKind.{LineKind}
use Rattle.gauge.specs.Line.{measured, height_at}

-- a column word that can be believed: a row below h, or the mark
abbrev pub Named : ℕ → ℕ → Type 0
Named h word = (word < h) ⊎ (word ≡ mark)

-- the value of a column in row y: its word's difference of rows lifted, or the line limit for a marked column
abbrev pub value_of : LineKind → ℕ → ℕ → ℕ
value_of kind y word = cond (eqb word mark) line_limit ((measured kind).lift (away y word))

-- the values of a whole row
pub record Filled (kind : LineKind) (y : ℕ) (words values : List ℕ) : Type 0 where
  pub each : (i : ℕ) → i < length words → get_or values i 0 ≡ value_of kind y (get_or words i 0)

-- each place of the line has a column of it in `winners`, whose height there is a u32 word
pub record Winners (kind : LineKind) (values winners : List ℕ) : Type 0 where
  pub column_in : (x : ℕ) → x < length values → get_or winners x 0 < length values
  pub small : (x : ℕ) → x < length values → height_at kind values (get_or winners x 0) x < 2 ^ 32

-- the map words written from the winners
pub record Heights (kind : LineKind) (values winners distances : List ℕ) : Type 0 where
  pub word : (x : ℕ) → x < length values → get_or distances x 0 ≡ height_at kind values (get_or winners x 0) x

-- each place of a row has a column of it in `winners`, whose word names a row
pub record Chosen (words winners : List ℕ) : Type 0 where
  pub as_long : length winners ≡ length words
  pub to : length words ≤ side_limit
  pub column_in : (x : ℕ) → x < length words → get_or winners x 0 < length words
  pub named : (x : ℕ) → x < length words → get_or words (get_or winners x 0) 0 < side_limit

-- the sites written from the winners: the cells that the winners' words name
pub record Sites (words winners sites : List ℕ) : Type 0 where
  pub site : (x : ℕ) → x < length words
      → get_or sites x 0 ≡ cell (length words) (get_or winners x 0) (get_or words (get_or winners x 0) 0)

-- what a row line is given of the scratch: the w words of a row from `at` on, each a row or the
-- mark and one of them a row, and 2w free words from `tail` on
pub record Believed (at tail : ℕ) (scratch : List ℕ) (w : ℕ) : Type 0 where
  pub from : 1 ≤ w
  pub to : w ≤ side_limit
  pub before_tail : at + w ≤ tail
  pub room : tail + w + w ≤ length scratch
  pub named : (i : ℕ) → i < w → Named side_limit (get_or scratch (at + i) 0)
  pub i₀ : ℕ
  pub i₀_in : i₀ < w
  pub i₀_named : get_or scratch (at + i₀) 0 ≢ mark

-- a line filled from such words: a column that names a row has a small value, and a marked one the line limit
pub record LineRead (at tail : ℕ) (scratch values : List ℕ) : Type 0 where
  pub believed : Believed at tail scratch (length values)
  pub small : (i : ℕ) → i < length values → get_or scratch (at + i) 0 ≢ mark → get_or values i 0 < 2 ^ 31
  pub marked : (i : ℕ) → i < length values → get_or scratch (at + i) 0 ≡ mark → get_or values i 0 ≡ line_limit

-- no scratch word is changed but the 2w from `tail` on
pub record TailUsed (tail w : ℕ) (before after : List ℕ) : Type 0 where
  pub kept : (k : ℕ) → k < tail → get_or after k 0 ≡ get_or before k 0
  pub beyond : Beyond (tail + w + w) before after

-- what comes of a filled line: over the columns that name a row, the least height of each place and the cell that the
-- least such column names
pub record LineOut (kind : LineKind) (at tail : ℕ) (before values after distances sites : List ℕ) : Type 0 where
  pub row : (x : ℕ) → x < length values → RowWord (length values) (measured kind).combine (λ i. get_or before (at + i) 0)
      (λ i. get_or values i 0) x (get_or distances x 0) (get_or sites x 0)
  pub used : TailUsed tail (length values) before after

-- what the row line of a picture leaves: the map words and sites of row y
pub record RowMade (kind : LineKind) (y at tail w : ℕ) (before after distances sites : List ℕ) : Type 0 where
  pub row : (x : ℕ) → x < w → RowWord w (measured kind).combine (λ i. get_or before (at + i) 0)
      (λ i. (measured kind).lift (away y (get_or before (at + i) 0))) x (get_or distances x 0) (get_or sites x 0)
  pub used : TailUsed tail w before after
