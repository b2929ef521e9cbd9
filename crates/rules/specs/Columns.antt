-- The steps that the sources offer: what is known of one column, and what a row makes of it. A column is said once
-- for pictures and costs, by the number that its rows are ranked by: the difference of rows for a picture, lift plus
-- cost for costs. Assumes nothing.
use Rattle.std.specs.Prelude.{◌≡◌, ◌≢◌, cond, List, ℕ, ◌+◌, ◌≤◌, ◌<◌, eqb}
use Rattle.rules.specs.Limits.{mark}
use Rattle.rules.specs.Board.{cell, away, cost_at}
use Rattle.rules.specs.Measures.{measure}

-- "G(x, y) is the least dy to a bore in column x": j is the row where it is attained, the upper one on a tie. Over
-- `rank` in place of dy the same serves costs.
pub record Nearest (h : ℕ) (Feature : ℕ → Type 0) (rank : ℕ → ℕ) (j : ℕ) : Type 0 where
  pub row_in : j < h
  pub feature : Feature j
  pub nearest : (j' : ℕ) → j' < h → Feature j' → rank j ≤ rank j'
  pub upper : (j' : ℕ) → j' < h → Feature j' → rank j' ≡ rank j → j ≤ j'

-- the word of a column: that row, or the mark where the column has no feature
pub record ColumnWord (h : ℕ) (Feature : ℕ → Type 0) (rank : ℕ → ℕ) (word : ℕ) : Type 0 where
  pub named : word ≢ mark → Nearest h Feature rank word
  pub empty : word ≡ mark → (j : ℕ) → j < h → Feature j → ⊥

-- what the features of a cost picture are ranked by as seen from row y
abbrev pub cost_rank : ℕ → ℕ → List ℕ → ℕ → ℕ → ℕ → ℕ
cost_rank kind w costs y i j = (measure kind).lift (away y j) + cost_at w costs i j

-- What a row line makes of the words of its row, whoever put them there: over the columns that are not marked, the
-- least of combine(|x − i|, value i), and the cell that the least such column names. `value i` is what the column's
-- word lifts to.
pub record RowWord (w : ℕ) (combine : ℕ → ℕ → ℕ) (words value : ℕ → ℕ) (x d site : ℕ) : Type 0 where
  pub i : ℕ
  pub column_in : i < w
  pub unmarked : words i ≢ mark
  pub word_is : d ≡ combine (away x i) (value i)
  pub site_is : site ≡ cell w i (words i)
  pub least : (i' : ℕ) → i' < w → words i' ≢ mark → d ≤ combine (away x i') (value i')
  pub least_column : (i' : ℕ) → i' < w → words i' ≢ mark → combine (away x i') (value i') ≡ d → i ≤ i'

-- "With a bore present, W + H may stand for an empty column's G": what a column of this word then counts as its G, as
-- seen from row y
abbrev pub stood_in : ℕ → ℕ → ℕ → ℕ → ℕ
stood_in w h y word = cond (eqb word mark) (w + h) (away y word)

-- and what a row makes of its words where so every column takes part: the clauses of `RowWord`, with none left out
pub record FullRowWord (w : ℕ) (combine : ℕ → ℕ → ℕ) (words value : ℕ → ℕ) (x d site : ℕ) : Type 0 where
  pub i : ℕ
  pub column_in : i < w
  pub word_is : d ≡ combine (away x i) (value i)
  pub site_is : site ≡ cell w i (words i)
  pub least : (i' : ℕ) → i' < w → d ≤ combine (away x i') (value i')
  pub least_column : (i' : ℕ) → i' < w → combine (away x i') (value i') ≡ d → i ≤ i'
