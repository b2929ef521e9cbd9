-- The farthest word of kind 0. On any board a difference of columns or rows is less than the side limit, so no word is more
-- than twice the square of the greatest of them. A board whose one bore is in its first cell has that word in its last, if
-- both sides are as long as they may be. Assumes nothing.
use mathlib.Core.Path.{◌≡◌, refl}
use Prim.Native.Nat.{ℕ, zero, suc, ◌-◌, ◌*◌, ◌≤◌, ◌<◌}
use native.Mathlib.Nat.{le_refl, mul-le-mul}
use native.Mathlib.Omega.{arith}
use lib.ListN.{get_or, get_or-replicate}
use Rattle.rules.specs.Limits.{side_limit}
use Rattle.rules.specs.Board.{cell, away, Bored}
use Rattle.rules.specs.Samples.{first_bored, FarthestWord}
use Rattle.rules.proofs.Board.{cell_in, cell_inj}

-- where the first cell is bored and no other, a bore is in the first column and row
pub first_only : {w h i j : ℕ} → i < w → j < h → Bored w (first_bored w h) i j → (i ≡ 0) × (j ≡ 0)
first_only {w} {h} {i} {j} l m e = at_cell (cell w i j) refl e
  where
    at_cell : (c : ℕ) → cell w i j ≡ c → get_or (first_bored w h) c 0 ≡ 1 → (i ≡ 0) × (j ≡ 0)
    at_cell zero q b = cell_inj j 0 l (omega arith) (omega (arith, q))
    at_cell (suc c) q b = absurd (omega (arith, get_or-replicate {A = ℕ} (w * h - 1) c 0 0 (omega (arith, cell_in l m))))

-- a greater number has no lesser square
pub square_most : (x n : ℕ) → x ≤ n → x * x ≤ n * n
square_most x n l = mul-le-mul l l

pub farthest_shown : FarthestWord 8_380_418
unfolding away
farthest_shown = record {
  on_board = record { width_from = omega arith; width_to = omega arith; height_from = omega arith; height_to = omega arith };
  attained = record {
    i = 0;
    j = 0;
    column_in = omega arith;
    row_in = omega arith;
    feature = refl;
    attained = refl;
    least = λ i j l m b. let (e, f) = first_only l m b in rw (e, f) (le_refl 8_380_418);
  };
  greatest = λ w h picture x y word s l m t.
      let across = square_most (away x t.i) (side_limit - 1) (omega (arith, s.width_to, t.column_in)) in
      let down = square_most (away y t.j) (side_limit - 1) (omega (arith, s.height_to, t.row_in)) in
      omega (arith, t.attained, across, down);
}
