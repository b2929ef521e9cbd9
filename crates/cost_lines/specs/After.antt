-- What is asked of a cost picture that has passed the tests, and what each part of the map leaves. Assumes nothing.
use Rattle.std.specs.Prelude.{◌≡◌, ◌≢◌, List, ℕ, ◌*◌, ◌<◌, get_or}
use Rattle.rules.specs.Board.{cell, Unmarked}
use Rattle.rules.specs.Refusals.{scratch_words}
use Rattle.rules.specs.Accepted.{CostAccepted}
use Rattle.rules.specs.Tie.{CostMapWord, CostMapSite}
use Rattle.rules.specs.Columns.{ColumnWord, cost_rank}

-- a cost picture that has passed the tests, with buffers of just its size
abbrev pub FitAccepted : ℕ → ℕ → ℕ → List ℕ → Type 0
FitAccepted kind w h costs = CostAccepted w h kind costs (w * h) (w * h) (scratch_words w h)

-- column i has its words
abbrev pub ColumnAfter : ℕ → ℕ → ℕ → List ℕ → List ℕ → ℕ → Type 0
ColumnAfter kind w h costs words i =
    (y : ℕ) → y < h → ColumnWord h (Unmarked w costs i) (cost_rank kind w costs y i) (get_or words (cell w i y) 0)

-- the columns below x have their words
abbrev pub ColumnsAfter : ℕ → ℕ → ℕ → List ℕ → List ℕ → ℕ → Type 0
ColumnsAfter kind w h costs words x = (i : ℕ) → i < x → ColumnAfter kind w h costs words i

-- one column more has its words, and no other column's is changed
pub record ColumnMore (kind w h x : ℕ) (costs before after : List ℕ) : Type 0 where
  pub made : ColumnAfter kind w h costs after x
  pub others : (i y : ℕ) → i < w → y < h → i ≢ x → get_or after (cell w i y) 0 ≡ get_or before (cell w i y) 0

-- row y has its map words and its sites
pub record RowAfter (kind w h : ℕ) (costs : List ℕ) (y : ℕ) (word site : ℕ → ℕ) : Type 0 where
  pub words : (x : ℕ) → x < w → CostMapWord kind w h costs x y (word x)
  pub names : (x : ℕ) → x < w → CostMapSite kind w h costs x y (site x)

-- the rows above y have theirs
abbrev pub RowsAfter : ℕ → ℕ → ℕ → List ℕ → List ℕ → List ℕ → ℕ → Type 0
RowsAfter kind w h costs distances sites y =
    (j : ℕ) → j < y → RowAfter kind w h costs j (λ x. get_or distances (cell w x j) 0) (λ x. get_or sites (cell w x j) 0)

-- row y made in two lists of its own, and no column word changed
pub record RowMore (kind w h y : ℕ) (costs before after distances sites : List ℕ) : Type 0 where
  pub made : RowAfter kind w h costs y (λ x. get_or distances x 0) (λ x. get_or sites x 0)
  pub kept : (k : ℕ) → k < w * h → get_or after k 0 ≡ get_or before k 0
