-- The closed form of kind 3 is the least weight of a walk by the steps of 003's table. No walk weighs less: with
-- e = d2 − d1 and f = 2·d1 − d2, which the bounds of the weights keep at 0 or more, the closed form is
-- f·max(dx, dy) + e·(dx + dy), so it grows by no more than the closed form of what dx and dy grow by; and the weight
-- of a step of the table is the closed form of its own two steps. Some walk weighs just that: let the last step into
-- a cell go in the direction of the larger difference, or in both directions where the two are equal. Then the lesser
-- difference before the step and the lesser one of the step itself add up, and the closed forms do too. Such a walk
-- takes min(dx, dy) slanted steps and then max − min straight ones, and stays between its two ends, so on the board.
-- Assumes nothing.
use mathlib.Core.Path.{◌≡◌, refl, sym, ◌∙◌, ap, subst}
use mathlib.Core.List.{List, [], ◌∷◌, Memᴰ}
use Prim.Native.Nat.{ℕ, zero, suc, ◌+◌, ◌-◌, ◌*◌, ◌≤◌, ◌<◌, min, max}
use native.Mathlib.Nat.{mul-le-mul_left, not-suc-le-zero, le_of_suc-le-suc, max-add-min}
use native.Mathlib.Decide.{dec_le}
use native.Mathlib.Omega.{arith}
use lib.ListN.{length, get_or}
use lib.IntN.{ℤ, pos, negsuc, nat_abs, ◌+ℤ◌, +ℤ_idr, -ℤ_one, -ℤ-+ℤ_cancel}
use Rattle.rules.specs.Board.{away}
use Rattle.rules.proofs.Board.{away_self, away_zero}
use Rattle.rules.specs.Measures.{chamfer, Weights}
use Rattle.rules.specs.Table.{step, back, none, on, steps, weight, Leads}
use Rattle.rules.specs.declared.Choice.{Choice}
use Rattle.rules.specs.declared.Choice.TheVariants.{D1, D2}
use Rattle.rules.specs.declared.Step.{Step}

-- A walk from the cell (i, j) over a board of w columns and h rows, with the cell that it ends in and what its steps
-- weigh together: each step is one of the table and leads to a cell of the board.
pub data Walk (w h d1 d2 i j : ℕ) : ℕ → ℕ → ℕ → Type 0 where
  start : Walk w h d1 d2 i j i j 0
  further : {x y x' y' t : ℕ} {s : Step}
      → Walk w h d1 d2 i j x y t
      → Memᴰ s steps
      → Leads s x y x' y'
      → x' < w
      → y' < h
      → Walk w h d1 d2 i j x' y' (t + weight d1 d2 s.2)

-- what a list reads at a number below its length is in the list
listed : (l : List Step) (n : ℕ) (z : Step) → n < length l → Memᴰ (get_or l n z) l
listed [] n z h = absurd (not-suc-le-zero h)
listed (s ∷ l) zero z h = Memᴰ.head refl
listed (s ∷ l) (suc n) z h = Memᴰ.tail (listed l n z (le_of_suc-le-suc h))

-- the table's steps are its readings at 0 to 7, whatever z is read past its end
pub step_listed : (n : ℕ) (z : Step) → n < 8 → Memᴰ (get_or steps n z) steps
step_listed = listed steps

-- the closed form by the lesser difference and both together
by_lesser : (d1 d2 dx dy : ℕ) → chamfer d1 d2 dx dy + 2 * (d1 * min dx dy) ≡ d2 * min dx dy + d1 * (dx + dy)
unfolding chamfer
by_lesser d1 d2 dx dy =
    let e : max dx dy - min dx dy + 2 * min dx dy ≡ dx + dy = omega arith in
    omega (arith, ap (λ n. d1 * n) e)

-- the closed form by the larger difference and both together
by_larger : {d1 d2 : ℕ} (e f dx dy : ℕ)
    → d1 ≡ e + f
    → d2 ≡ e + e + f
    → chamfer d1 d2 dx dy ≡ f * max dx dy + e * (dx + dy)
by_larger e f dx dy p q =
    rw (p, q) (omega (arith, by_lesser (e + f) (e + e + f) dx dy, ap (λ n. f * n) (max-add-min dx dy)))

-- the closed form grows by no more than the closed form of what the differences grow by
triangle : {d1 d2 : ℕ} (dx dy dx' dy' p q : ℕ)
    → Weights d1 d2
    → dx ≤ dx' + p
    → dy ≤ dy' + q
    → chamfer d1 d2 dx dy ≤ chamfer d1 d2 dx' dy' + chamfer d1 d2 p q
triangle {d1} {d2} dx dy dx' dy' p q c a b =
    let e : ℕ = d2 - d1 in
    let f : ℕ = 2 * d1 - d2 in
    let u : d1 ≡ e + f = omega arith in
    let v : d2 ≡ e + e + f = omega arith in
    let l : max dx dy ≤ max dx' dy' + max p q = omega arith in
    let s : dx + dy ≤ dx' + dy' + (p + q) = omega arith in
    rw
    (by_larger e f dx dy u v, by_larger e f dx' dy' u v, by_larger e f p q u v)
    (omega (arith, mul-le-mul_left f l, mul-le-mul_left e s))

-- where the lesser differences add up, so do the closed forms
adds_up : (d1 d2 dx dy p q : ℕ)
    → min (dx + p) (dy + q) ≡ min dx dy + min p q
    → chamfer d1 d2 (dx + p) (dy + q) ≡ chamfer d1 d2 dx dy + chamfer d1 d2 p q
adds_up d1 d2 dx dy p q e =
    let a = by_lesser d1 d2 dx dy in
    let b = by_lesser d1 d2 p q in
    omega (arith, by_lesser d1 d2 (dx + p) (dy + q), ap (λ n. d1 * n) e, ap (λ n. d2 * n) e)

-- P holds of each step of a list
abbrev Each : (Step → Type 0) → List Step → Type 0
Each P [] = Unit
Each P (s ∷ l) = P s × Each P l

-- so it holds of one that is in the list
each : (P : Step → Type 0) {s : Step} {l : List Step} → Memᴰ s l → Each P l → P s
each P (Memᴰ.head e) a = subst P (sym e) a.0
each P (Memᴰ.tail m) a = each P m a.1

-- the closed form of a step's own differences
abbrev own : ℕ → ℕ → Step → ℕ
own d1 d2 s = chamfer d1 d2 (nat_abs s.1) (nat_abs s.0)

-- for a step of the table that is its weight
weighs : (d1 d2 : ℕ) {s : Step} → Memᴰ s steps → weight d1 d2 s.2 ≡ own d1 d2 s
unfolding chamfer
weighs d1 d2 m = each (λ s. weight d1 d2 s.2 ≡ own d1 d2 s) m (omega arith)

-- a step by z changes the difference to i by at most |z|
shifted : (i x x' : ℕ) (z : ℤ)
    → pos x' ≡ pos x +ℤ z
    → (away x i ≤ away x' i + nat_abs z) × (away x' i ≤ away x i + nat_abs z)
unfolding away
shifted i x x' (pos n) e =
    let f : x' ≡ x + n = cc in
    omega arith
shifted i x x' (negsuc n) e =
    let f : pos (x' + suc n) ≡ pos x = ap (λ k. k +ℤ pos (suc n)) e ∙ -ℤ-+ℤ_cancel (pos x) (pos (suc n)) in
    let g : x' + suc n ≡ x = cc in
    omega arith

-- one step of the table changes the closed form by at most its weight
pub never_too_small : {d1 d2 x y x' y' : ℕ} {s : Step} (i j : ℕ)
    → Weights d1 d2
    → Memᴰ s steps
    → Leads s x y x' y'
    → (chamfer d1 d2 (away x i) (away y j) ≤ chamfer d1 d2 (away x' i) (away y' j) + weight d1 d2 s.2)
    × (chamfer d1 d2 (away x' i) (away y' j) ≤ chamfer d1 d2 (away x i) (away y j) + weight d1 d2 s.2)
never_too_small {d1} {d2} {x} {y} {x'} {y'} {s} i j c m l =
    let a = shifted i x x' s.1 l.across in
    let b = shifted j y y' s.0 l.down in
    rw (weighs d1 d2 m) (triangle _ _ _ _ _ _ c a.0 b.0, triangle _ _ _ _ _ _ c a.1 b.1)

-- from a cell to itself the closed form is 0
at_home : (d1 d2 i j : ℕ) → chamfer d1 d2 (away i i) (away j j) ≡ 0
unfolding chamfer
at_home d1 d2 i j = rw (away_self i, away_self j) (omega arith)

-- no walk weighs less than the closed form
pub least : {w h d1 d2 i j x y t : ℕ}
    → Weights d1 d2
    → Walk w h d1 d2 i j x y t
    → chamfer d1 d2 (away x i) (away y j) ≤ t
least {d1} {d2} {i} {j} c start = omega (arith, at_home d1 d2 i j)
least {i} {j} c (further k m l _ _) = omega (arith, least c k, never_too_small i j c m l)

-- what a step can do in one direction
data Turn : Type 0 where
  backward unmoved onward : Turn

-- the number that the table has for it
abbrev turned : Turn → ℤ
turned backward = back
turned unmoved = none
turned onward = on

-- and that number without its sign
abbrev size : Turn → ℕ
size t = nat_abs (turned t)

-- how a step is found in the table
ruleset in_table = (Memᴰ.head, Memᴰ.tail)

-- what is chosen by as many turns
abbrev chosen : ℕ → Choice
chosen zero = D1
chosen (suc zero) = D1
chosen (suc (suc k)) = D2

-- the table has every pair of turns but the one that stays in its cell
complete : (r c : Turn) → 0 < size r + size c → Memᴰ (step (turned r) (turned c) (chosen (size r + size c))) steps
complete backward backward h = search in_table depth 9
complete backward unmoved h = search in_table depth 9
complete backward onward h = search in_table depth 9
complete unmoved backward h = search in_table depth 9
complete unmoved unmoved h = absurd (omega arith)
complete unmoved onward h = search in_table depth 9
complete onward backward h = search in_table depth 9
complete onward unmoved h = search in_table depth 9
complete onward onward h = search in_table depth 9

-- The last turn from i to x in one direction, where the larger of the two differences is k before it and k + 1 after:
-- it moves only if i and x are k + 1 apart, and it comes from a place between them.
record Last (i x k : ℕ) : Type 0 where
  from : ℕ
  turn : Turn
  moved : pos x ≡ pos from +ℤ turned turn
  nearer : (away x i ≡ away from i + size turn) × (away from i ≡ min k (away x i)) × (from ≤ max i x)

-- there is always one
last : (i x k : ℕ) → away x i ≤ suc k → Last i x k
unfolding away
last i x k h = go (dec_le (away x i) k) (dec_le i x)
  where
    go : Dec (away x i ≤ k) → Dec (i ≤ x) → Last i x k
    go (yes l) d = record { from = x; turn = unmoved; moved = sym (+ℤ_idr (pos x)); nearer = omega arith }
    go (no g) (yes l) = record { from = x - 1; turn = onward; moved = ap pos (omega arith); nearer = omega arith }
    go (no g) (no f) =
        record { from = suc x; turn = backward; moved = sym (-ℤ_one (pos (suc x))); nearer = omega arith }

-- the last step makes the last turn in both directions, and what it weighs is what the closed form grows by
last_step : {w h d1 d2 i j x y k : ℕ} (a : Last i x k) (b : Last j y k)
    → max (away x i) (away y j) ≡ suc k
    → x < w
    → y < h
    → Walk w h d1 d2 i j a.from b.from (chamfer d1 d2 (away a.from i) (away b.from j))
    → Walk w h d1 d2 i j x y (chamfer d1 d2 (away x i) (away y j))
last_step {d1} {d2} {i} {j} a b e x_in y_in before =
    let m = complete b.turn a.turn (omega arith) in
    let g = adds_up d1 d2 (away a.from i) (away b.from j) (size a.turn) (size b.turn) (omega arith) in
    rw
    (a.nearer.0, b.nearer.0, g, ← (weighs d1 d2 m))
    (further before m (record { across = a.moved; down = b.moved }) x_in y_in)

module _ (w h d1 d2 i j : ℕ) (i_in : i < w) (j_in : j < h) where
  -- a walk that weighs the closed form, by the larger of the two differences
  reach : (k x y : ℕ)
      → x < w
      → y < h
      → max (away x i) (away y j) ≡ k
      → Walk w h d1 d2 i j x y (chamfer d1 d2 (away x i) (away y j))
  reach zero x y _ _ e = rw (away_zero x i (omega arith), away_zero y j (omega arith), at_home d1 d2 i j) start
  reach (suc k) x y x_in y_in e =
      let a = last i x k (omega arith) in
      let b = last j y k (omega arith) in
      last_step a b e x_in y_in (reach k a.from b.from (omega arith) (omega arith) (omega arith))

-- between two cells of the board some walk over the board weighs the closed form
pub attained : {w h i j x y : ℕ} (d1 d2 : ℕ)
    → i < w
    → j < h
    → x < w
    → y < h
    → Walk w h d1 d2 i j x y (chamfer d1 d2 (away x i) (away y j))
attained d1 d2 i_in j_in x_in y_in = reach _ _ d1 d2 _ _ i_in j_in _ _ _ x_in y_in refl
