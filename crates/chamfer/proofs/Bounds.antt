-- How far the words of the bores have come. No scan takes a word below the least closed form to a bore, and each brings
-- the words of the bores to more cells: at first a bore's word stands in the bore alone; the forward scan brings it
-- wherever a least walk goes by forward steps alone, the backward scan to every cell. Assumes nothing.
use mathlib.Core.Path.{◌≡◌}
use mathlib.Core.List.{List}
use Prim.Native.Nat.{ℕ, zero, suc, ◌+◌, ◌≤◌}
use Rattle.rules.specs.Board.{Bored}
use Rattle.rules.specs.Measures.{chamfer_kind}
use Rattle.rules.specs.Tie.{bore_word}
use Rattle.chamfer_turn.specs.Neighbours.{Weighed, On, word}

-- the cell (i, j) of the board is bored
pub record Bore (b : Weighed) (picture : List ℕ) (i j : ℕ) : Type 0 where
  pub on_board : On b i j
  pub bored : Bored b.board.w picture i j

-- the closed form between (x, y) and (i, j)
abbrev pub apart : Weighed → ℕ → ℕ → ℕ → ℕ → ℕ
apart b x y i j = bore_word chamfer_kind b.d1 b.d2 x y i j

-- some bore is no farther from (x, y) than v
pub record Held (b : Weighed) (picture : List ℕ) (x y v : ℕ) : Type 0 where
  pub i : ℕ
  pub j : ℕ
  pub bore : Bore b picture i j
  pub no_farther : apart b x y i j ≤ v

-- Where the word of a bore in (i, j) has come after so many scans: to the bore itself; to where a least walk goes by
-- forward steps alone, which lead down, right, and left no more than down; to every cell.
abbrev pub Come : ℕ → ℕ → ℕ → ℕ → ℕ → Type 0
Come zero i j x y = (x ≡ i) × (y ≡ j)
Come (suc zero) i j x y = (j ≤ y) × (i + j ≤ x + y)
Come (suc (suc n)) i j x y = Unit {0}

-- the words after so many scans: none below the least closed form to a bore, and none above the closed form to a bore
-- whose word has come
pub record Bounded (b : Weighed) (picture words : List ℕ) (scans : ℕ) : Type 0 where
  pub never_less : (x y : ℕ) → On b x y → Held b picture x y (word b words x y)
  pub never_more : (i j : ℕ) → Bore b picture i j → (x y : ℕ) → On b x y → Come scans i j x y
      → word b words x y ≤ apart b x y i j
