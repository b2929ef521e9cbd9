-- The width, and the walk down the labels. Assumes nothing.
use Rattle.std.specs.Prelude.{◌≡◌, Bool, true, false, List, ℕ, ◌+◌, ◌*◌, ◌≤◌, ◌<◌, take}
use Rattle.rules.specs.Limits.{mark}
use Rattle.rules.specs.Lane.{Neighbours, Lane, Best, width}
use Rattle.lane_flood.specs.Labelling.{at}

-- a lane as wide as v
pub record Wide (w h : ℕ) (word : ℕ → ℕ) (from to v : ℕ) : Type 0 where
  pub cells : List ℕ
  pub lane : Lane w h from to cells
  pub as_wide : v ≤ width word cells

-- on n cells in rows of w, however many rows these are: some lane is as wide as v, and none is wider than `most`
pub record Between (w n : ℕ) (word : ℕ → ℕ) (from to v most : ℕ) : Type 0 where
  pub some : (h : ℕ) → n ≡ w * h → Wide w h word from to v
  pub none : (h : ℕ) → n ≡ w * h → (cells : List ℕ) → Lane w h from to cells → width word cells ≤ most

-- whether some lane is as wide as v
pub record AsWide (w n : ℕ) (word : ℕ → ℕ) (from to v : ℕ) (answer : Bool) : Type 0 where
  pub yes : answer ≡ true → (h : ℕ) → n ≡ w * h → Wide w h word from to v
  pub no : answer ≡ false → (h : ℕ) → n ≡ w * h → (cells : List ℕ) → Lane w h from to cells → width word cells < v

-- q is the cell to go to from p: of the neighbours with the next lesser label the least
pub record Down (w n : ℕ) (label : ℕ → ℕ) (p q : ℕ) : Type 0 where
  pub inside : q < n
  pub near : Neighbours w p q
  pub lesser : label q + 1 ≡ label p
  pub least : (r : ℕ) → r < n → Neighbours w p r → label r + 1 ≡ label p → q ≤ r

-- the first `cells` path words walk down the labels from the cell `from`
pub record Walked (w n : ℕ) (label : ℕ → ℕ) (from cells : ℕ) (path : ℕ → ℕ) : Type 0 where
  pub cells_is : cells ≡ label from
  pub first : path 0 ≡ from
  pub steps : (i : ℕ) → i + 1 < cells → Down w n label (path i) (path (i + 1))

-- the best lane on n cells in rows of w, however many rows these are: its width, its cells in the first path words, marks
-- after them, and no label left
pub record Laid (w n : ℕ) (word : ℕ → ℕ) (from to broad cells : ℕ) (labels path : List ℕ) : Type 0 where
  pub best : (h : ℕ) → n ≡ w * h → Best w h word from to (take cells path)
  pub width_is : (h : ℕ) → n ≡ w * h → broad ≡ width word (take cells path)
  pub cells_in : cells ≤ n
  pub marked : (k : ℕ) → cells ≤ k → k < n → at path k ≡ mark
  pub cleared : (k : ℕ) → k < n → at labels k ≡ 0
