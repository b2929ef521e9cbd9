-- One step towards a bore. Each scan brings the word of a bore to more cells. To such a cell the word had come before
-- the scan, or one of the scan's four steps leads from it to a cell to which the word comes too, and from which the
-- closed form is less by just the weight of that step: a slanted step where both differences are above 0, else a straight
-- step in the direction of the larger one. Assumes nothing.
use mathlib.Core.Path.{◌≡◌, refl, ap}
use mathlib.Core.Logic.{◌⊎◌, inl, inr}
use Prim.Native.Nat.{ℕ, zero, suc, ◌+◌, ◌-◌, ◌*◌, ◌≤◌, ◌<◌, min, max}
use native.Mathlib.Decide.{dec_le, dec_lt}
use native.Mathlib.Omega.{arith}
use lib.IntN.{pos, ◌+ℤ◌}
use Rattle.rules.specs.Board.{away}
use Rattle.rules.specs.Measures.{chamfer}
use Rattle.rules.specs.Table.{weight}
use Rattle.chamfer_turn.specs.Neighbours.{Weighed, On, printed, Neighbour}
use Rattle.chamfer_turn.proofs.Moves.{one_back, no_step}
use Rattle.chamfer.proofs.Bounds.{apart, Come}

-- a slanted step: both differences grow
slanted : (d1 d2 dx dy : ℕ) → chamfer d1 d2 (suc dx) (suc dy) ≡ chamfer d1 d2 dx dy + d2
unfolding chamfer
slanted d1 d2 dx dy =
    let a : min (suc dx) (suc dy) ≡ min dx dy + 1 = omega arith in
    let b : max (suc dx) (suc dy) - min (suc dx) (suc dy) ≡ max dx dy - min dx dy = omega arith in
    omega (arith, ap (λ n. d2 * n) a, ap (λ n. d1 * n) b)

-- a straight step: the larger difference grows
straight : (d1 d2 dx dy : ℕ) → dy ≤ dx → chamfer d1 d2 (suc dx) dy ≡ chamfer d1 d2 dx dy + d1
unfolding chamfer
straight d1 d2 dx dy l =
    let a : min (suc dx) dy ≡ min dx dy = omega arith in
    let b : max (suc dx) dy - min (suc dx) dy ≡ max dx dy - min dx dy + 1 = omega arith in
    omega (arith, ap (λ n. d2 * n) a, ap (λ n. d1 * n) b)

-- the closed form is the same with the differences exchanged
turned : (d1 d2 dx dy : ℕ) → chamfer d1 d2 dx dy ≡ chamfer d1 d2 dy dx
unfolding chamfer
turned d1 d2 dx dy =
    let a : min dx dy ≡ min dy dx = omega arith in
    let b : max dx dy - min dx dy ≡ max dy dx - min dy dx = omega arith in
    omega (arith, ap (λ n. d2 * n) a, ap (λ n. d1 * n) b)

-- A step of the scan from (x, y) towards the bore (i, j): by one of its steps, to a cell (x', y') to which the bore's
-- word comes too, with the closed form less by the step's weight.
pub record Nearer (b : Weighed) (scan i j x y : ℕ) : Type 0 where
  pub k : ℕ
  pub x' : ℕ
  pub y' : ℕ
  pub own : (4 * scan ≤ k) × (k < 4 * scan + 4)
  pub neighbour : Neighbour b k x y x' y'
  pub comes : Come (suc scan) i j x' y'
  pub less : apart b x' y' i j + weight b.d1 b.d2 (printed k).2 ≤ apart b x y i j

module _ (b : Weighed) (i j x y : ℕ) where
  -- the closed form before a slanted step
  by_slanted : (x' y' : ℕ) → away x i ≡ suc (away x' i) → away y j ≡ suc (away y' j)
      → apart b x' y' i j + b.d2 ≤ apart b x y i j
  by_slanted x' y' e f = rw (e, f) (omega (arith, slanted b.d1 b.d2 (away x' i) (away y' j)))

  -- before a step across
  by_across : (x' : ℕ) → away x i ≡ suc (away x' i) → away y j ≤ away x' i → apart b x' y i j + b.d1 ≤ apart b x y i j
  by_across x' e l = rw e (omega (arith, straight b.d1 b.d2 (away x' i) (away y j) l))

  -- before a step down or up
  by_down : (y' : ℕ) → away y j ≡ suc (away y' j) → away x i ≤ away y' j → apart b x y' i j + b.d1 ≤ apart b x y i j
  by_down y' e l =
      let s = straight b.d1 b.d2 (away y' j) (away x i) l in
      let t = turned b.d1 b.d2 (away x i) (away y' j) in
      rw e (omega (arith, turned b.d1 b.d2 (away x i) (suc (away y' j))))

  -- such a step from its parts
  step_to : (scan k x' y' : ℕ)
      → pos x' ≡ pos x +ℤ (printed k).1
      → pos y' ≡ pos y +ℤ (printed k).0
      → (4 * scan ≤ k) × (k < 4 * scan + 4)
      × On b x' y' × Come (suc scan) i j x' y'
      → apart b x' y' i j + weight b.d1 b.d2 (printed k).2 ≤ apart b x y i j
      → Nearer b scan i j x y
  step_to scan k x' y' e f p l =
      record {
        k = k;
        x' = x';
        y' = y';
        own = (p.0, p.1);
        neighbour = record { leads = record { across = e; down = f }; on_board = p.2 };
        comes = p.3;
        less = l;
      }

  module _ (here : On b x y) (bore : On b i j) where
    -- a forward step comes from the left or from above
    forward : Come 1 i j x y → Come 0 i j x y ⊎ Nearer b 0 i j x y
    unfolding away
    forward c = go (dec_lt j y) (dec_lt i x) (dec_lt x i)
      where
        go : Dec (j < y) → Dec (i < x) → Dec (x < i) → Come 0 i j x y ⊎ Nearer b 0 i j x y
        go (no same) (no p) q = inl (omega arith)
        go (no same) (yes right) q =
            inr
            (step_to 0 3 (x - 1) y (one_back x (omega arith)) (no_step y) (omega arith)
            (by_across (x - 1) (omega arith) (omega arith)))
        go (yes below) (yes right) q =
            inr
            (step_to 0 0 (x - 1) (y - 1) (one_back x (omega arith)) (one_back y (omega arith)) (omega arith)
            (by_slanted (x - 1) (y - 1) (omega arith) (omega arith)))
        go (yes below) (no p) (no q) =
            inr
            (step_to 0 1 x (y - 1) (no_step x) (one_back y (omega arith)) (omega arith)
            (by_down (y - 1) (omega arith) (omega arith)))
        go (yes below) (no p) (yes left) =
            inr
            (step_to 0 2 (x + 1) (y - 1) refl (one_back y (omega arith)) (omega arith)
            (by_slanted (x + 1) (y - 1) (omega arith) (omega arith)))

    -- a backward step comes from the right or from below
    backward : Come 1 i j x y ⊎ Nearer b 1 i j x y
    unfolding away
    backward = go (dec_lt y j) (dec_lt i x) (dec_lt x i) (dec_le (i + j) (x + y))
      where
        go : Dec (y < j) → Dec (i < x) → Dec (x < i) → Dec (i + j ≤ x + y) → Come 1 i j x y ⊎ Nearer b 1 i j x y
        go (no p) q r (yes come) = inl (omega arith)
        go (no p) q r (no left) =
            inr
            (step_to 1 4 (x + 1) y refl (no_step y) (omega arith)
            (by_across (x + 1) (omega arith) (omega arith)))
        go (yes above) (yes right) r s =
            inr
            (step_to 1 5 (x - 1) (y + 1) (one_back x (omega arith)) refl (omega arith)
            (by_slanted (x - 1) (y + 1) (omega arith) (omega arith)))
        go (yes above) (no q) (no r) s =
            inr
            (step_to 1 6 x (y + 1) (no_step x) refl (omega arith)
            (by_down (y + 1) (omega arith) (omega arith)))
        go (yes above) (no q) (yes left) s =
            inr
            (step_to 1 7 (x + 1) (y + 1) refl refl (omega arith)
            (by_slanted (x + 1) (y + 1) (omega arith) (omega arith)))

-- to a cell to which the scan brings the bore's word, it had come before or comes by such a step
pub nearer : {b : Weighed} (scan : ℕ) {i j x y : ℕ}
    → scan < 2
    → On b x y
    → On b i j
    → Come (suc scan) i j x y
    → Come scan i j x y ⊎ Nearer b scan i j x y
nearer {b} zero {i} {j} {x} {y} l here bore c = forward b i j x y here bore c
nearer {b} (suc zero) {i} {j} {x} {y} l here bore c = backward b i j x y here bore
nearer (suc (suc n)) l here bore c = absurd (omega arith)
