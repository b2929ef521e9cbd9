-- The flood from the far end `to` over the cells whose word is at least v: what it leaves, and how it gets there. A cell
-- that is reached gets a label, 1 + its fewest steps, and enters the queue; 0 is no label. Assumes nothing.
use Rattle.std.specs.Prelude.{◌≡◌, List, ℕ, zero, suc, ◌+◌, ◌≤◌, ◌<◌, min, get_or, set}
use Rattle.rules.specs.Lane.{Neighbours}
use Rattle.lane_flood.specs.Around.{Lies}

-- the word or the label of a cell, as a list holds it
abbrev pub at : List ℕ → ℕ → ℕ
at list c = get_or list c 0

-- each label but 1 has the next lesser one beside it
abbrev pub Led : ℕ → ℕ → (ℕ → ℕ) → Type 0
Led w n label = (p : ℕ) → p < n → 1 < label p → (q : ℕ) × (q < n) × Neighbours w p q × (label q + 1 ≡ label p)

-- so it is, and no label is above n: a walk down the labels can go on
pub record Descending (w n : ℕ) (label : ℕ → ℕ) : Type 0 where
  pub lesser : Led w n label
  pub few : (p : ℕ) → p < n → label p ≤ n

-- the labels that a flood leaves on n cells in rows of w
pub record Labels (w n : ℕ) (word : ℕ → ℕ) (v to : ℕ) (label : ℕ → ℕ) : Type 0 where
  pub start : v ≤ word to → label to ≡ 1
  pub spread : (p q : ℕ) → p < n → q < n → Neighbours w p q → v ≤ word p → 0 < label q
      → (0 < label p) × (label p ≤ label q + 1)
  pub wide : (p : ℕ) → p < n → 0 < label p → v ≤ word p
  pub last : (p : ℕ) → p < n → label p ≡ 1 → p ≡ to
  pub descending : Descending w n label

-- how many of the first n cells have a label
unfoldable pub marks : (ℕ → ℕ) → ℕ → ℕ
marks label zero = 0
marks label (suc n) = min 1 (label n) + marks label n

-- a flood under way. The labelled cells stand in the queue, in the order of their labels; the cells at the places before
-- `head` have spread to their neighbours.
pub record Flow (w n : ℕ) (word : ℕ → ℕ) (v to : ℕ) (label queue : ℕ → ℕ) (head tail : ℕ) : Type 0 where
  -- the queue's places: the cell `to` first, and the head not past the tail
  pub begun : 0 < tail
  pub head_in : head ≤ tail
  pub origin : queue 0 ≡ to
  -- the cells in it are those that have a label, each once
  pub queue_in : (i : ℕ) → i < tail → queue i < n
  pub labelled : (i : ℕ) → i < tail → 0 < label (queue i)
  pub queued : (p : ℕ) → p < n → 0 < label p → (i : ℕ) × (i < tail) × (queue i ≡ p)
  pub counted : tail ≡ marks label n
  -- the labels along it never fall, and from the head on they rise by one at most
  pub rising : (i j : ℕ) → i ≤ j → j < tail → label (queue i) ≤ label (queue j)
  pub near : (i : ℕ) → i < tail → head < tail → label (queue i) ≤ label (queue head) + 1
  pub small : (i : ℕ) → i < tail → label (queue i) ≤ i + 1
  -- what the labels keep to the end (`Labels`)
  pub start : label to ≡ 1
  pub wide : (p : ℕ) → p < n → 0 < label p → v ≤ word p
  pub last : (p : ℕ) → p < n → label p ≡ 1 → p ≡ to
  pub lesser : Led w n label
  -- what the cells before the head have done
  pub done : (i p : ℕ) → i < head → p < n → Neighbours w (queue i) p → v ≤ word p
      → (0 < label p) × (label p ≤ label (queue i) + 1)

-- the cell c has spread to the neighbours on its sides before k
pub record Sided (w n : ℕ) (word : ℕ → ℕ) (v : ℕ) (label : ℕ → ℕ) (c k : ℕ) : Type 0 where
  pub each : (j p : ℕ) → j < k → p < n → Lies w c j p → v ≤ word p → (0 < label p) × (label p ≤ label c + 1)

-- a cell p comes up with the label d: it is passed over, or gets the label and enters the queue
pub data Touched (n v p d : ℕ) (words labels queue : List ℕ) (tail : ℕ) (labels' queue' : List ℕ) (tail' : ℕ) : Type 0 where
  passed : (p < n → v ≤ at words p → 0 < at labels p) → labels' ≡ labels → queue' ≡ queue → tail' ≡ tail
      → Touched n v p d words labels queue tail labels' queue' tail'
  entered : p < n → v ≤ at words p → at labels p ≡ 0 → labels' ≡ set labels p d → queue' ≡ set queue tail p
      → tail' ≡ tail + 1 → Touched n v p d words labels queue tail labels' queue' tail'
