-- The map word and the tie rule. Both are over any set of features on the board and any word that a feature has as
-- seen from one cell, so that pictures and costs, and every kind, share their laws; at the end stand the words of
-- pictures and of costs. Assumes nothing.
use Rattle.std.specs.Prelude.{◌≡◌, List, [], ◌∷◌, ℕ, ◌+◌, ◌≤◌, ◌<◌}
use Rattle.rules.specs.Board.{cell, away, Bored, cost_at, Unmarked}
use Rattle.rules.specs.Order.{Earlier}
use Rattle.rules.specs.Measures.{distance}

-- "A map word is the least distance over all bored cells.": d is the word of the feature in column i and row j, and
-- no feature has a lesser one
pub record Least (w h : ℕ) (Feature : ℕ → ℕ → Type 0) (word : ℕ → ℕ → ℕ) (d : ℕ) : Type 0 where
  pub i : ℕ
  pub j : ℕ
  pub column_in : i < w
  pub row_in : j < h
  pub feature : Feature i j
  pub attained : word i j ≡ d
  pub least : (i' j' : ℕ) → i' < w → j' < h → Feature i' j' → d ≤ word i' j'

-- "Of the cells that attain the least, take the least column; in it the least dy (binary pictures only); then the
-- least row.": the cell in column i and row j, where dy is the difference of rows
pub record Site (w h : ℕ) (Feature : ℕ → ℕ → Type 0) (word : ℕ → ℕ → ℕ) (dy : ℕ → ℕ) (i j : ℕ) : Type 0 where
  pub column_in : i < w
  pub row_in : j < h
  pub feature : Feature i j
  pub least : (i' j' : ℕ) → i' < w → j' < h → Feature i' j' → word i j ≤ word i' j'
  pub least_column : (i' j' : ℕ) → i' < w → j' < h → Feature i' j' → word i' j' ≡ word i j → i ≤ i'  -- the least column
  pub least_dy : (j' : ℕ) → j' < h → Feature i j' → word i j' ≡ word i j → dy j ≤ dy j'  -- in it the least dy
  pub least_row : (j' : ℕ) → j' < h → Feature i j' → word i j' ≡ word i j → dy j' ≡ dy j → j ≤ j'  -- the least row

-- "For costs: least column, then least row."
pub record CostSite (w h : ℕ) (Feature : ℕ → ℕ → Type 0) (word : ℕ → ℕ → ℕ) (i j : ℕ) : Type 0 where
  pub column_in : i < w
  pub row_in : j < h
  pub feature : Feature i j
  pub least : (i' j' : ℕ) → i' < w → j' < h → Feature i' j' → word i j ≤ word i' j'
  pub least_column : (i' j' : ℕ) → i' < w → j' < h → Feature i' j' → word i' j' ≡ word i j → i ≤ i'
  pub least_row : (j' : ℕ) → j' < h → Feature i j' → word i j' ≡ word i j → j ≤ j'

-- The tie rule as an order of the cells: by word, column, dy and row. With 0 for every dy it is the rule for costs.
abbrev pub site_keys : (ℕ → ℕ → ℕ) → (ℕ → ℕ) → ℕ → ℕ → List ℕ
site_keys word dy i j = word i j ∷ i ∷ dy j ∷ j ∷ []

-- the feature that no feature comes before, in the order by such keys
pub record First (w h : ℕ) (Feature : ℕ → ℕ → Type 0) (keys : ℕ → ℕ → List ℕ) (i j : ℕ) : Type 0 where
  pub column_in : i < w
  pub row_in : j < h
  pub feature : Feature i j
  pub none_before : (i' j' : ℕ) → i' < w → j' < h → Feature i' j' → Earlier (keys i' j') (keys i j) → ⊥

-- the word of the bore in column i and row j, as seen from the cell (x, y)
abbrev pub bore_word : ℕ → ℕ → ℕ → ℕ → ℕ → ℕ → ℕ → ℕ
bore_word kind d1 d2 x y i j = distance kind d1 d2 (away x i) (away y j)

-- "For costs (kinds 0 and 1) it is the least of distance + cost over all unmarked cells (001)."
abbrev pub cost_word : ℕ → ℕ → List ℕ → ℕ → ℕ → ℕ → ℕ → ℕ
cost_word kind w costs x y i j = distance kind 0 0 (away x i) (away y j) + cost_at w costs i j

-- the map word of a picture at (x, y)
abbrev pub MapWord : ℕ → ℕ → ℕ → ℕ → ℕ → List ℕ → ℕ → ℕ → ℕ → Type 0
MapWord kind d1 d2 w h picture x y d = Least w h (Bored w picture) (bore_word kind d1 d2 x y) d

-- the site word of a picture at (x, y), for a kind that names a cell: the number of the cell that the tie rule takes
pub record MapSite (kind d1 d2 w h : ℕ) (picture : List ℕ) (x y site : ℕ) : Type 0 where
  pub i : ℕ
  pub j : ℕ
  pub site_is : site ≡ cell w i j
  pub rule : Site w h (Bored w picture) (bore_word kind d1 d2 x y) (away y) i j

-- the map word and the site word of a cost picture at (x, y)
abbrev pub CostMapWord : ℕ → ℕ → ℕ → List ℕ → ℕ → ℕ → ℕ → Type 0
CostMapWord kind w h costs x y d = Least w h (Unmarked w costs) (cost_word kind w costs x y) d

pub record CostMapSite (kind w h : ℕ) (costs : List ℕ) (x y site : ℕ) : Type 0 where
  pub i : ℕ
  pub j : ℕ
  pub site_is : site ≡ cell w i j
  pub rule : CostSite w h (Unmarked w costs) (cost_word kind w costs x y) i j
