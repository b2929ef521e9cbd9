-- "The lane", over any word that a cell has: neighbours, lanes, width and the order of lanes; then the widest lane of a
-- picture. A cell is its number. Assumes nothing.
use Rattle.std.specs.Prelude.{◌≡◌, List, [], ◌∷◌, ℕ, ◌+◌, ◌*◌, ◌≤◌, ◌<◌, min, length}
use Rattle.rules.specs.Board.{cell, column, row, away}
use Rattle.rules.specs.Order.{Earlier}
use Rattle.rules.specs.Tie.{MapWord}

-- "Neighbours share an edge.": one step apart, along a row or along a column
abbrev pub Neighbours : ℕ → ℕ → ℕ → Type 0
Neighbours w p q = away (column w p) (column w q) + away (row w p) (row w q) ≡ 1

-- "A lane is a list of cells, each the neighbour of the one before.": after the cell p come the cells of the list, and
-- the last of all is `to`
unfoldable pub GoesOn : ℕ → ℕ → ℕ → List ℕ → ℕ → Type 0
GoesOn w h p [] to = p ≡ to
GoesOn w h p (q ∷ qs) to = (q < w * h) × Neighbours w p q × GoesOn w h q qs to

-- a lane from the cell `from` to the cell `to`
unfoldable pub Lane : ℕ → ℕ → ℕ → ℕ → List ℕ → Type 0
Lane w h from to [] = ⊥
Lane w h from to (p ∷ ps) = (p ≡ from) × (p < w * h) × GoesOn w h p ps to

-- "Its width is the least kind 0 map word on it.": the least word on a list of cells (0 for no cell, which is no lane)
unfoldable pub width : (ℕ → ℕ) → List ℕ → ℕ
width word [] = 0
width word (p ∷ []) = word p
width word (p ∷ q ∷ ps) = min (word p) (width word (q ∷ ps))

-- "widest, then fewest cells, then the first where lists are compared cell by cell"
pub record Best (w h : ℕ) (word : ℕ → ℕ) (from to : ℕ) (cells : List ℕ) : Type 0 where
  pub lane : Lane w h from to cells
  pub widest : (other : List ℕ) → Lane w h from to other → width word other ≤ width word cells
  pub fewest : (other : List ℕ) → Lane w h from to other → width word other ≡ width word cells
      → length cells ≤ length other
  pub first : (other : List ℕ) → Lane w h from to other → width word other ≡ width word cells
      → length other ≡ length cells → Earlier other cells → ⊥

-- "Asked of a picture and two cell numbers": the cells are the best lane by the kind 0 words, and the width is theirs.
-- `word` is demand 2's least distance of each cell, and no stored word.
pub record WidestLane (w h : ℕ) (picture : List ℕ) (from to broad : ℕ) (cells : List ℕ) : Type 0 where
  pub word : ℕ → ℕ
  pub word_least : (x y : ℕ) → x < w → y < h → MapWord 0 0 0 w h picture x y (word (cell w x y))
  pub best : Best w h word from to cells
  pub width_is : broad ≡ width word cells
