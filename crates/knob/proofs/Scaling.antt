-- Scaling by 64 and back is exact. The good value for k is the float k/64: its product by 64 is the float k, whose
-- product by 1/64 is the value again. So a value that comes back is good for the whole number between, and a good value
-- passes both tests and comes back. The constants are any floats of the values named. Assumes nothing.
use Rattle.std.proofs.Common.{◌≡◌, ℕ, ◌*◌, ◌<◌, true, false, T, eqb, pos, sym, refl, ap, ◌∙◌, subst, true≢false, mul-pos, mul-one, arith, lit<, eqb-true}
use mathlib.Core.Bool.{false≢true, and-eq-true_iff}
use native.Mathlib.Nat.{eq_of_mul-eq-mul_right}
use lib.Ieee.{Float, nan, inf, fin, binary32, up, down, round, mul, of_int, to_unsigned, le, eq, ne, fits, to_bits}
use lib.Ieee.Fits.{down_pos}
use lib.Ieee.Exact.{HasValue}
use lib.Ieee.Back.{unsigned_back}
use lib.Ieee.Scale.{round_same}
use lib.Ieee.Compare.{differs_from_itself}
use lib.Ieee.Order.{le_of_values}
use lib.Ieee.Positive.{positive_of_value, first_pos, mul_at}
use Rattle.rules.specs.Limits.{knob_limit}
use Rattle.rules.specs.Knob.{Good}
use Rattle.rules.proofs.FloatWord.{part_of}
use Rattle.rules.proofs.KnobValue.{value_word, good_of_value, sixty_fourths, exact, good_float}
use Rattle.knob.proofs.Range.{Whole, good_whole, holds_whole, whole_value, top_whole}

-- the product of two positive values is rounded once
product : (x y : Float) (a c b d : ℕ) → 0 < a → 0 < c → 0 < b → 0 < d → HasValue x false a c → HasValue y false b d
    → mul binary32 x y ≡ round binary32 false (a * b) (c * d)
product x y a c b d A C B D h k =
    mul_at binary32 x y a c b d (positive_of_value x a c h A) (positive_of_value y b d k B) C D h k

-- 1/64 of the float k is the float k/64
comes : (back : Float) {k : ℕ} → Whole k → HasValue back false 1 64
    → mul binary32 (of_int binary32 (pos k)) back ≡ sixty_fourths k
comes back {k} w b = part_of binary32 k 64 back w.from (lit< tt) (omega (arith, w.to)) b

-- a float that equals one of a positive value has that value
same_value : (x v : Float) (a c : ℕ) → 0 < a → HasValue x false a c → eq x v ≡ true → HasValue v false a c
unfolding eq
same_value nan v a c p h t = absurd h
same_value (inf s) v a c p h t = absurd h
same_value (fin true m e) v a c p h t = absurd (true≢false h.0)
same_value (fin false m e) nan a c p h t = absurd (false≢true t)
same_value (fin false m e) (inf s) a c p h t = absurd (false≢true t)
same_value (fin false m e) (fin true n d) a c p h t =
    let A = m * up e * down d in
    let size : 0 < m * up e = first_pos (m * up e) c (subst (λ (x : ℕ). 0 < x) (sym h.1) (mul-pos p (down_pos e))) in
    let none : A ≡ 0 = eqb-true A 0 ((and-eq-true_iff (eqb A (n * up d * down e)) (eqb A 0)).0 t).1 in
    absurd (omega (arith, mul-pos size (down_pos d)))
same_value (fin false m e) (fin false n d) a c p h t =
    let A = m * up e * down d in
    let B = n * up d * down e in
    let level : A ≡ B = eqb-true A B ((and-eq-true_iff (eqb A B) true).0 t).0 in (
      refl,
      eq_of_mul-eq-mul_right (down e) (down_pos e) (n * up d * c) (a * down d)
          (omega (arith, ap (λ (x : ℕ). x * c) level, ap (λ (x : ℕ). x * down d) h.1)),
    )

-- a value that equals 1/64 of a whole number is good for it
pub came_back : (v back : Float) {k : ℕ} → Whole k → eq (mul binary32 (of_int binary32 (pos k)) back) v ≡ true
    → HasValue back false 1 64 → Good (to_bits binary32 v) k
came_back v back {k} w t b =
    let equal : eq (sixty_fourths k) v ≡ true = rw (comes back w b) at t in
    let h : HasValue v false k 64 = same_value (sixty_fourths k) v k 64 w.from (exact w.to) equal in
    value_word v (good_of_value v w.from w.to h)

-- a value that is good for k, and what becomes of it
module _ (v scale : Float) (f : fits binary32 v ≡ true) (s : HasValue scale false 64 1) {k : ℕ}
    (g : Good (to_bits binary32 v) k) where
  -- k is a number that a knob can give
  whole : Whole k
  whole = good_whole g

  -- it is the float k/64
  is_float : v ≡ sixty_fourths k
  is_float = good_float v f g

  -- it goes to the float k
  goes : mul binary32 v scale ≡ of_int binary32 (pos k)
  unfolding of_int
  goes =
      let h : HasValue v false k 64 = subst (λ (x : Float). HasValue x false k 64) (sym is_float) (exact g.to) in
      product v scale k 64 64 1 g.from (lit< tt) (lit< tt) (lit< tt) h s
      ∙ round_same binary32 false (k * 64) 64 k 1 (lit< tt) (lit< tt) (mul-one (k * 64))

  -- that is not below 1
  pub not_below : (one : Float) → le one (mul binary32 v scale) ≡ false → HasValue one false 1 1 → ⊥
  not_below one t o =
      let x = of_int binary32 (pos k) in
      let passes : T (le one x) =
      le_of_values one x 1 1 k 1 (lit< tt) (lit< tt) o (whole_value whole) (omega (arith, g.from)) in
      subst T t (rw goes passes)

  -- nor above the limit
  pub not_above : le (mul binary32 v scale) (of_int binary32 (pos knob_limit)) ≡ false → ⊥
  not_above t =
      let x = of_int binary32 (pos k) in
      let top = of_int binary32 (pos knob_limit) in
      let passes : T (le x top) =
      le_of_values x top k 1 knob_limit 1 (lit< tt) (lit< tt) (whole_value whole) (whole_value top_whole)
      (omega (arith, g.to)) in
      subst T t (rw goes passes)

  -- and it comes back
  pub not_lost : (back : Float) {j : ℕ} → j ≡ to_unsigned 64 (mul binary32 v scale)
      → eq (mul binary32 (of_int binary32 (pos j)) back) v ≡ false → HasValue back false 1 64 → ⊥
  unfolding ne
  not_lost back {j} cut t b =
      let x = sixty_fourths k in
      let uncut : to_unsigned 64 (of_int binary32 (pos k)) ≡ k =
      (unsigned_back binary32 64 k (holds_whole whole) (omega (arith, g.to))).1 in
      let same : j ≡ k = cut ∙ ap (to_unsigned 64) goes ∙ uncut in
      let again : mul binary32 (of_int binary32 (pos j)) back ≡ x = rw same (comes back whole b) in
      let differs : eq x x ≡ false = cc (again, is_float, t) in
      subst (λ (y : Float). HasValue y false k 64) (differs_from_itself x (rw differs tt)) (exact g.to)
