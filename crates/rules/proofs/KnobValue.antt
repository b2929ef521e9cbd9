-- The paper says twice what is good: of the value, which times 64 is a whole number k from 1 to 4,096, and of its
-- IEEE 754 word. For an f32 the two are one (`good_exactly`).
--
-- From the value to the word: the good word for k is that of the whole number k over 2^6 (`FloatWord`). From the word to
-- the value: k/64 is itself an f32, since k has at most 13 digits, and so it has the good word for k; an f32 with the
-- same word is the same f32.
--
-- What the paper names as bad is bad by its word: a NaN and an infinity have an exponent of 255, what has a sign, the
-- negative zero too, has a word of 2^31 or more, and the word of zero is 0. Assumes nothing.
use mathlib.Core.Path.{◌≡◌, refl, sym, ap, ◌∙◌, subst}
use mathlib.Core.Logic.{◌↔◌, inl, inr}
use mathlib.Core.Bool.{Bool, true, false, true≢false}
use Prim.Native.Nat.{ℕ, ◌*◌, ◌%◌, ◌^◌, ◌≤◌, ◌<◌}
use native.Mathlib.Nat.{mul-pos}
use native.Mathlib.Omega.{arith}
use lib.IntN.{ℤ, pos}
use lib.Dec.{T, ltb, lit<, lit≤, ltb→lt}
use lib.Ieee.{Float, nan, inf, fin, binary32, to_bits, of_bits, round, fits, is_nan}
use lib.Ieee.Fits.{round-fits, down_pos}
use lib.Ieee.Bits.{is_true, nan_bits_is, nan_bits_above}
use lib.Ieee.Exact.{HasValue}
use Rattle.rules.specs.Limits.{knob_limit}
use Rattle.rules.specs.Knob.{GoodFor, Good}
use Rattle.rules.specs.Refusals.{good_value}
use Rattle.rules.proofs.Knob.{good_word_unique, named_bad}
use Rattle.rules.proofs.FloatWord.{leading, exponent_below, word_of_value, fraction_exact, one_value}

-- a good value has the good word
pub value_word : (v : Float) {k : ℕ} → GoodFor v k → Good (to_bits binary32 v) k
unfolding to_bits
value_word nan g = absurd g.scaled
value_word (inf s) g = absurd g.scaled
value_word (fin true n e) g = absurd (omega (arith, g.scaled, mul-pos g.from (down_pos e)))
value_word (fin false n e) {k} g =
    let (m, power, greatest) = leading k g.from in
    let few : m < 24 = exponent_below m 24 power (omega (arith, g.to)) in
    record {
      from = g.from;
      to = g.to;
      m = m;
      power = power;
      greatest = greatest;
      word_is = word_of_value binary32 (fin false n e) k m 6 (lit< tt) few power greatest (refl, g.scaled);
    }

-- a float of the value k/64 is good for k
pub good_of_value : (v : Float) {k : ℕ} → 1 ≤ k → k ≤ knob_limit → HasValue v false k 64 → GoodFor v k
good_of_value nan a b h = absurd h
good_of_value (inf s) a b h = absurd h
good_of_value (fin true m e) a b h = absurd (true≢false h.0)
good_of_value (fin false m e) a b h = record { from = a; to = b; scaled = h.1 }

-- the float k/64
abbrev pub sixty_fourths : ℕ → Float
sixty_fourths k = round binary32 false k 64

-- it is k/64 exactly
pub exact : {k : ℕ} → k ≤ knob_limit → HasValue (sixty_fourths k) false k 64
exact {k} to = fraction_exact binary32 k 6 (lit< tt) (omega (arith, to))

-- an f32 with the good word for k is that float, which has the same word
pub good_float : (v : Float) {k : ℕ} → fits binary32 v ≡ true → Good (to_bits binary32 v) k → v ≡ sixty_fourths k
good_float v {k} f g =
    let x = sixty_fourths k in
    let good : GoodFor x k = good_of_value x g.from g.to (exact g.to) in
    one_value binary32 v x f (is_true (fits binary32 x) (round-fits binary32 false k 64))
    (good_word_unique g (value_word x good))

-- The word of an f32 is good for k exactly if the value times 64 is the whole number k, from 1 to the limit.
pub good_exactly : (v : Float) (k : ℕ) → fits binary32 v ≡ true → Good (to_bits binary32 v) k ↔ GoodFor v k
good_exactly v k f = (
  λ g. subst (λ (x : Float). GoodFor x k) (sym (good_float v f g))
      (good_of_value (sixty_fourths k) g.from g.to (exact g.to)),
  value_word v,
)

-- "NaN, infinities, negatives and both zeros are bad.": NaN
pub nan_bad : good_value (to_bits binary32 nan) ≡ false
unfolding to_bits
nan_bad = named_bad _ (inr (lit≤ tt))

-- whichever of its words a NaN has
pub nan_word_bad : (word : ℕ) → of_bits binary32 word ≡ nan → good_value word ≡ false
unfolding is_nan
nan_word_bad word e =
    let test : ltb (255 * 2 ^ 23) (word % 2 ^ 31) ≡ true =
    sym (nan_bits_above binary32 word) ∙ nan_bits_is binary32 word ∙ ap is_nan e in
    let above : 255 * 2 ^ 23 < word % 2 ^ 31 = ltb→lt (255 * 2 ^ 23) (word % 2 ^ 31) (subst T (sym test) tt) in
    named_bad word (inr (omega arith))

-- the infinity of either sign
pub infinity_bad : (s : Bool) → good_value (to_bits binary32 (inf s)) ≡ false
unfolding to_bits
infinity_bad true = named_bad _ (inr (lit≤ tt))
infinity_bad false = named_bad _ (inr (lit≤ tt))

-- every finite float with a sign, the negative zero too
pub negative_bad : (m : ℕ) (e : ℤ) → good_value (to_bits binary32 (fin true m e)) ≡ false
unfolding to_bits
negative_bad m e = named_bad _ (inr (omega arith))

-- the zero of either sign
pub zero_bad : (s : Bool) → good_value (to_bits binary32 (fin s 0 (pos 0))) ≡ false
unfolding to_bits
zero_bad true = negative_bad 0 (pos 0)
zero_bad false = named_bad _ (inl refl)
