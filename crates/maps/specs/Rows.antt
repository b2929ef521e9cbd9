-- All the row lines of a board, one after the other. As a row line does, they believe the words that stand in the scratch.
-- Assumes nothing.
use Rattle.std.specs.Prelude.{◌≡◌, ◌≢◌, List, ℕ, ◌+◌, ◌*◌, ◌<◌, get_or}
use Rattle.rules.specs.Limits.{mark}
use Rattle.rules.specs.Board.{cell, away}
use Rattle.rules.specs.Columns.{RowWord}
use Rattle.rules.specs.Calls.{Beyond}
use Rattle.rules.specs.declared.kind.LineKind.{LineKind}
use Rattle.gauge.specs.Line.{measured}

-- the word of column i in row y
abbrev pub word_of : ℕ → List ℕ → ℕ → ℕ → ℕ
word_of w scratch y i = get_or scratch (cell w i y) 0

-- words that the row lines can believe: each a row or the mark, and one column that names a row in every row
pub record Believable (w h : ℕ) (scratch : List ℕ) : Type 0 where
  pub named : (x y : ℕ) → x < w → y < h → word_of w scratch y x ≢ mark → word_of w scratch y x < h
  pub i₀ : ℕ
  pub i₀_in : i₀ < w
  pub i₀_named : (y : ℕ) → y < h → word_of w scratch y i₀ ≢ mark

-- what the row lines of the rows below y leave
pub record RowsMade (kind : LineKind) (w h y : ℕ) (before after d d' s s' : List ℕ) : Type 0 where
  pub rows : (x y' : ℕ) → x < w → y' < y → RowWord w (measured kind).combine (word_of w before y')
      (λ i. (measured kind).lift (away y' (word_of w before y' i))) x (get_or d' (cell w x y') 0) (get_or s' (cell w x y') 0)
  pub kept : (k : ℕ) → k < w * h → get_or after k 0 ≡ get_or before k 0
  pub scratch_beyond : Beyond (w * h + w + w) before after
  pub distances_beyond : Beyond (y * w) d d'
  pub sites_beyond : Beyond (y * w) s s'
