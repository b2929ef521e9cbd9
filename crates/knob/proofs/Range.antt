-- The whole numbers that a knob can give, and the two tests of the scaled value. A float from 1 to the limit is a
-- positive fraction; it may be cut to a whole number, which is again from 1 to the limit. A NaN and an infinity are no
-- such float. Assumes nothing.
use Rattle.std.proofs.Common.{◌≡◌, ℕ, ◌+◌, ◌*◌, ◌/◌, ◌^◌, ◌<◌, ◌≤◌, true, false, T, pos, sym, subst, le_refl, div-lt_iff_lt-mul, le-div_iff_mul-le, arith, lit<, lit≤, le→leb, lt→ltb}
use lib.Ieee.{Float, nan, inf, fin, binary32, up, down, of_int, to_unsigned, in_float, lt, le}
use lib.Ieee.Fits.{down_pos}
use lib.Ieee.Exact.{HasValue}
use lib.Ieee.Positive.{num, den, positive, own_value, positive_of_value, between, values_of_le}
use Rattle.rules.specs.Limits.{knob_limit}
use Rattle.rules.specs.Knob.{Good}
use Rattle.rules.proofs.FloatWord.{whole_exact}

-- a whole number that a knob can give
pub record Whole (k : ℕ) : Type 0 where
  pub from : 1 ≤ k
  pub to : k ≤ knob_limit

-- what a word is good for is one
pub good_whole : {word k : ℕ} → Good word k → Whole k
good_whole g = record { from = g.from; to = g.to }

-- a whole number that a knob can give is a float
pub holds_whole : {k : ℕ} → Whole k → T (in_float binary32 (pos k))
unfolding in_float
holds_whole {k} w = le→leb k (2 ^ 24) (omega (arith, w.to))

-- that float has its value
pub whole_value : {k : ℕ} → Whole k → HasValue (of_int binary32 (pos k)) false k 1
whole_value {k} w = whole_exact binary32 k (omega (arith, w.to))

-- the limit is such a number
pub top_whole : Whole knob_limit
top_whole = record { from = lit≤ tt; to = le_refl knob_limit }

-- a float from 1 to the limit
pub record Ranged (x : Float) : Type 0 where
  pub above_zero : T (positive x)
  pub from : den x ≤ num x
  pub to : num x ≤ knob_limit * den x

-- one that passes both tests
pub in_range : (one x : Float) → le one x ≡ true → le x (of_int binary32 (pos knob_limit)) ≡ true
    → HasValue one false 1 1 → Ranged x
in_range one x above below o =
    let top : Float = of_int binary32 (pos knob_limit) in
    let t : HasValue top false knob_limit 1 = whole_value top_whole in
    let one_above : T (positive one) = positive_of_value one 1 1 o (lit< tt) in
    let top_above : T (positive top) = positive_of_value top knob_limit 1 t (lit< tt) in
    let at_least : T (le one x) = subst T (sym above) tt in
    let at_most : T (le x top) = subst T (sym below) tt in
    let x_above : T (positive x) = between one x top one_above top_above at_least at_most in
    let own = own_value x x_above in
    record {
      above_zero = x_above;
      from = omega (arith, values_of_le one x 1 1 (num x) (den x) one_above x_above o own at_least);
      to = omega (arith, values_of_le x top (num x) (den x) knob_limit 1 x_above top_above own t at_most);
    }

-- it may be cut to a whole number
pub cut_asks : (x : Float) → Ranged x → T (lt (fin true 1 (pos 0)) x) × T (lt x (fin false 1 (pos 64)))
unfolding lt
cut_asks nan r = absurd r.above_zero
cut_asks (inf s) r = absurd r.above_zero
cut_asks (fin true m e) r = absurd r.above_zero
cut_asks (fin false m e) r = (
  lt→ltb 0 (1 * 1 * down e + m * up e * 1) (omega (arith, down_pos e)),
  lt→ltb (m * up e * 1) (1 * 2 ^ 64 * down e) (omega (arith, r.to, down_pos e)),
)

-- and the whole number is one that a knob can give
pub cut_whole : (x : Float) → Ranged x → Whole (to_unsigned 64 x)
unfolding to_unsigned
cut_whole nan r = absurd r.above_zero
cut_whole (inf s) r = absurd r.above_zero
cut_whole (fin true m e) r = absurd r.above_zero
cut_whole (fin false m e) r =
    let q = m * up e / down e in
    let least : 1 ≤ q = (le-div_iff_mul-le (down_pos e)).1 (omega (arith, r.from)) in
    let most : q < knob_limit + 1 = (div-lt_iff_lt-mul (down_pos e)).1 (omega (arith, r.to, down_pos e)) in
    record { from = omega arith; to = omega arith }
