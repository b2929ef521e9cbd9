-- The four sides of a cell, by numbers. In the order above, left, right, below the cells on them have rising numbers.
-- Assumes nothing.
use Rattle.std.specs.Prelude.{◌≡◌, ◌≢◌, List, ℕ, zero, suc, ◌+◌, ◌*◌, ◌≤◌, ◌<◌, length, Option, Some, IfSome}
use Rattle.rules.specs.Limits.{side_limit}
use Rattle.rules.specs.Board.{column}
use Rattle.lane_flood.specs.declared.sides.Side.{Side}
use Rattle.lane_flood.specs.declared.sides.Side.TheVariants.{Above, Left, Right, Below}

-- n cells that lie in rows of w
pub record InRows (w n : ℕ) : Type 0 where
  pub rows : ℕ
  pub whole : n ≡ w * rows
  pub from : 1 ≤ w
  pub across : w ≤ n
  pub to : n ≤ side_limit * side_limit

-- the lists of a flood: the words of cells that lie in rows of w, and as many labels and places in the queue
pub record Lists (w : ℕ) (words labels queue : List ℕ) : Type 0 where
  pub board : InRows w (length words)
  pub labels_long : length labels ≡ length words
  pub queue_long : length queue ≡ length words

-- the numbers of the sides
abbrev pub side_number : Side → ℕ
side_number Above = 0
side_number Left = 1
side_number Right = 2
side_number Below = 3

-- the cell q lies on side k of the cell c: 0 above, 1 to the left, 2 to the right, 3 below
unfoldable pub Lies : ℕ → ℕ → ℕ → ℕ → Type 0
Lies w c zero q = c ≡ q + w
Lies w c (suc zero) q = (c ≡ q + 1) × (column w c ≢ 0)
Lies w c (suc (suc zero)) q = (q ≡ c + 1) × (column w q ≢ 0)
Lies w c (suc (suc (suc k))) q = q ≡ c + w

-- of the n cells, the answer is the one on side k of c, or none where there is none
pub record Beside (w n c k : ℕ) (answer : Option ℕ) : Type 0 where
  pub lies : IfSome answer (λ p. (p < n) × Lies w c k p)
  pub only : (q : ℕ) → q < n → Lies w c k q → answer ≡ Some q
