-- What the column lines of a slice say, and its row lines. Assumes nothing.
use Rattle.std.specs.Prelude.{◌≡◌, ◌≢◌, cond, List, ℕ, ◌+◌, ◌*◌, ◌≤◌, ◌<◌, eqb, get_or, Option, Some, None}
use Rattle.rules.specs.Limits.{mark}
use Rattle.rules.specs.Board.{cell}
use Rattle.rules.specs.Refusals.{answer}
use Rattle.rules.specs.Calls.{Beyond}
use Rattle.rules.specs.Slices.{column_rows, row_rows, Among, BelievedWord}
use Rattle.rules.specs.declared.kind.LineKind.{LineKind}
use Rattle.rows.specs.Row.{RowMade}

-- how far a band is swept that ends at `to`: up to its first bad column, if it has one
abbrev pub reached : ℕ → Option ℕ → ℕ
reached to None = to
reached to (Some x) = x

-- the first column of the band that stops with 5, or the band's end where none does
pub record FirstBad (w h from to : ℕ) (picture : List ℕ) (end : ℕ) : Type 0 where
  pub from_in : from ≤ end
  pub to_in : end ≤ to
  pub none_stops : (x : ℕ) → from ≤ x → x < end → answer (column_rows w h picture x) ≡ 0
  pub stops : end < to → answer (column_rows w h picture end) ≡ 5

-- how many rows a board must have for a word to name one of them, 0 for the mark
abbrev pub rows_needed : ℕ → ℕ
rows_needed word = cond (eqb word mark) 0 (word + 1)

-- the most rows that one of the w words from `start` on asks for
pub record MostNamed (start w : ℕ) (words : List ℕ) (r : ℕ) : Type 0 where
  pub most : (i : ℕ) → i < w → rows_needed (get_or words (start + i) 0) ≤ r
  pub attained : 0 < r → (i : ℕ) × (i < w) × (rows_needed (get_or words (start + i) 0) ≡ r)

-- row y of a board, which begins at `at`: its words stand in the scratch, and the 2w words after the cells' words are free
pub record RowPlace (w h y at scratch : ℕ) : Type 0 where
  pub row_in : y < h
  pub at_is : at ≡ y * w
  pub room : w * h + w + w ≤ scratch

-- one row line: it answers the row's number, and is made where that is 0
pub record RowOnce (kind : LineKind) (w h y at : ℕ) (before after d d' s s' : List ℕ) (number : ℕ) : Type 0 where
  pub number_is : number ≡ answer (row_rows w h before y)
  pub stopped : number ≢ 0 → (after ≡ before) × (d' ≡ d) × (s' ≡ s)
  pub made : number ≡ 0 → RowMade kind y at (w * h) w before after d' s'

-- a list of which no words were written but those of the rows from..y
pub record RowsWritten (w h from y : ℕ) (before after : List ℕ) : Type 0 where
  pub others : (x k : ℕ) → x < w → k < h → (Among from y k → ⊥) →
      get_or after (cell w x k) 0 ≡ get_or before (cell w x k) 0
  pub beyond : Beyond (w * h) before after

-- the row lines from..y are done: none of them stops, and each has its map words and sites by the words of the scratch
pub record RowsDone (kind w h from y : ℕ) (before after d d' s s' : List ℕ) : Type 0 where
  pub none_stops : (k : ℕ) → Among from y k → answer (row_rows w h before k) ≡ 0
  pub words : (x k : ℕ) → x < w → Among from y k →
      BelievedWord kind w before x k (get_or d' (cell w x k) 0) (get_or s' (cell w x k) 0)
  pub cells_kept : (k : ℕ) → k < w * h → get_or after k 0 ≡ get_or before k 0
  pub scratch_beyond : Beyond (w * h + w + w) before after
  pub distances_written : RowsWritten w h from y d d'
  pub sites_written : RowsWritten w h from y s s'

-- the row lines from..to, up to the first that stops
pub record RowsEnded (kind w h from to : ℕ) (before after d d' s s' : List ℕ) (number y : ℕ) : Type 0 where
  pub from_in : from ≤ y
  pub to_in : y ≤ to
  pub done : RowsDone kind w h from y before after d d' s s'
  pub all_done : y ≡ to → number ≡ 0
  pub stopped : y < to → (number ≡ answer (row_rows w h before y)) × (number ≢ 0)
