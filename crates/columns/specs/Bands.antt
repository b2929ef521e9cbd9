-- What the sweeps leave of a band of columns, and what the test of its bytes answers. A band is the columns a up to
-- b, with a and without b, of a board w wide and h high. Assumes nothing.
use Rattle.std.specs.Prelude.{◌≡◌, Bool, true, false, List, ℕ, ◌≤◌, ◌<◌, length, get_or}
use Rattle.rules.specs.Board.{cell, away, Bored}
use Rattle.rules.specs.Columns.{ColumnWord}

-- each cell of the band has its column's word, and every other word is as it was
pub record Swept (w h a b : ℕ) (picture before after : List ℕ) : Type 0 where
  pub words : (x y : ℕ) → a ≤ x → x < b → y < h →
      ColumnWord h (Bored w picture x) (away y) (get_or after (cell w x y) 0)
  pub others : (k : ℕ) → ((x y : ℕ) → a ≤ x → x < b → y < h → k ≡ cell w x y → ⊥) →
      get_or after k 0 ≡ get_or before k 0
  pub as_long : length after ≡ length before

-- 5: "a picture byte is neither 0 nor 1", of the bytes of the band: whether there is one
pub record BadBand (w h a b : ℕ) (picture : List ℕ) (r : Bool) : Type 0 where
  pub holds : r ≡ true →
      (x : ℕ) × (y : ℕ) × (a ≤ x) × (x < b) × (y < h) × (1 < get_or picture (cell w x y) 0)
  pub passes : r ≡ false → (x y : ℕ) → a ≤ x → x < b → y < h → get_or picture (cell w x y) 0 ≤ 1
