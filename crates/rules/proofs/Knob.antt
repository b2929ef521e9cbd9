-- A good word and its whole number k fix each other. The part (k − 2^m)·2^(23−m) of a good word is below 2^23, since k
-- is below twice 2^m; so the word over 2^23 tells m, and what is left of the word tells k. A k has one greatest power
-- of two, so it has one word. The test of row 8 tries every k up to the limit and every m below 13, and 2^13 is above
-- the limit: it passes exactly where a word is good for some k, so a pitch by itself opens exactly where its word passes,
-- and a setting where both words do. Assumes nothing.
use mathlib.Core.Path.{◌≡◌, refl, sym, ap, ◌∙◌, subst}
use mathlib.Core.Logic.{◌↔◌, ◌⊎◌, inl, inr, ⊎_elim, by_cases}
use mathlib.Core.Bool.{Bool, true, false, not, ◌&&◌, ◌||◌, true≢false}
use Prim.Native.Nat.{ℕ, zero, suc, ◌+◌, ◌-◌, ◌*◌, ◌/◌, ◌^◌, ◌≤◌, ◌<◌}
use native.Mathlib.Decide.{ℕ_discrete}
use native.Mathlib.Nat.{eq_of_mul-eq-mul_right}
use native.Mathlib.Omega.{arith}
use lib.Dec.{T, leb, ltb, eqb, leb→le, ltb→lt, eqb→eq}
use lib.Pow.{pow_pos, pow-add, shl_lt, high}
use lib.Ieee.Bits.{is_true}
use lib.Ieee.Fits.{and_l, and_r}
use mir.Facts.{or_yes}
use borrow.Author.Tests.{not-false, le-leb, lt-ltb, eq-eqb}
use Rattle.rules.specs.declared.Setting.{Setting}
use Rattle.rules.specs.Limits.{knob_limit}
use Rattle.rules.specs.Knob.{Good, good_word, pitch_word, radius_word}
use Rattle.rules.specs.Refusals.{some, good_value, bad_setting, bad_pitch}
use Rattle.rules.specs.Calls.{Opened}
use Rattle.rules.proofs.FloatWord.{exponent_below, one_exponent}

-- the m of a good word is at most 12
good_power : {word k : ℕ} (g : Good word k) → g.m ≤ 12
good_power g = omega (arith, exponent_below g.m 13 g.power (omega (arith, g.to)))

-- a good word over 2^23 tells its m
good_exponent : {word k : ℕ} (g : Good word k) → word / 2 ^ 23 ≡ g.m + 121
good_exponent {word} {k} g =
    let small : k - 2 ^ g.m < 2 ^ g.m = omega (arith, pow-add 2 g.m 1) in
    let top : g.m + (23 - g.m) ≡ 23 = omega (arith, good_power g) in
    let within : (k - 2 ^ g.m) * 2 ^ (23 - g.m) < 2 ^ 23 = rw top at (shl_lt g.m (23 - g.m) small) in
    ap (λ (n : ℕ). n / 2 ^ 23) g.word_is ∙ high (g.m + 121) 23 within

-- a good word is good for one k
pub good_k_unique : {word k k' : ℕ} → Good word k → Good word k' → k ≡ k'
good_k_unique {word} {k} {k'} g g' =
    let m = g.m in
    let same : g'.m ≡ m = omega (arith, good_exponent g, good_exponent g') in
    let e : word ≡ good_word k' m = rw same at g'.word_is in
    let p : 2 ^ m ≤ k' = rw same at g'.power in
    let rest : (k - 2 ^ m) * 2 ^ (23 - m) ≡ (k' - 2 ^ m) * 2 ^ (23 - m) = omega (arith, g.word_is) in
    omega (arith, g.power, eq_of_mul-eq-mul_right (2 ^ (23 - m)) (pow_pos (23 - m)) (k - 2 ^ m) (k' - 2 ^ m) rest)

-- a k has one good word
pub good_word_unique : {word word' k : ℕ} → Good word k → Good word' k → word ≡ word'
good_word_unique {word} {word'} {k} g g' =
    let same : g.m ≡ g'.m = one_exponent g.power g.greatest g'.power g'.greatest in
    cc (g.word_is, g'.word_is)

-- where either of two tests passes, so does their disjunction
yes_or : (a b : Bool) → T a ⊎ T b → T (a || b)
yes_or true b h = tt
yes_or false b (inl t) = absurd t
yes_or false b (inr t) = t

-- where `some` passes, a number below n passes the test
pub some_means : (n : ℕ) (p : ℕ → Bool) → T (some n p) → (k : ℕ) × (k < n) × T (p k)
some_means zero p t = absurd t
some_means (suc n) p t =
    ⊎_elim (λ here. (n, omega arith, here)) (λ u. later (some_means n p u)) (or_yes (p n) (some n p) t)
  where
    later : (k : ℕ) × (k < n) × T (p k) → (k : ℕ) × (k < suc n) × T (p k)
    later r = (r.0, omega arith, r.2)

-- where a number below n passes the test, `some` passes
pub some_holds : (n : ℕ) (p : ℕ → Bool) {k : ℕ} → k < n → T (p k) → T (some n p)
some_holds zero p h t = absurd (omega arith)
some_holds (suc n) p {k} h t =
    yes_or (p n) (some n p)
    (by_cases (ℕ_discrete k n) (λ e. inl (subst (λ (x : ℕ). T (p x)) e t)) (λ e. inr (some_holds n p (omega arith) t)))

-- the three tests that `good_value` makes at k + 1 and m
abbrev fits : ℕ → ℕ → ℕ → Bool
fits word k m = leb (2 ^ m) (k + 1) && ltb (k + 1) (2 ^ (m + 1)) && eqb word (good_word (k + 1) m)

-- where the test of a word passes, the word is good for some k
pub good_value_means : (word : ℕ) → T (good_value word) → (k : ℕ) × Good word k
unfolding good_value
good_value_means word t =
    let outer = some_means knob_limit (λ (k : ℕ). some 13 (fits word k)) t in
    let k = outer.0 in
    let inner = some_means 13 (fits word k) outer.2 in
    let m = inner.0 in
    let all : T (fits word k m) = inner.2 in (
      k + 1,
      record {
        from = omega arith;
        to = omega (arith, outer.1);
        m = m;
        power = leb→le (2 ^ m) (k + 1) (search (and_l, and_r));
        greatest = ltb→lt (k + 1) (2 ^ (m + 1)) (search (and_l, and_r));
        word_is = eqb→eq word (good_word (k + 1) m) (search (and_l, and_r));
      },
    )

-- where a word is good for some k, the test passes
pub good_value_holds : {word k : ℕ} → Good word k → T (good_value word)
unfolding good_value
good_value_holds {word} {k} g =
    let e : k - 1 + 1 ≡ k = omega arith in
    some_holds knob_limit (λ (j : ℕ). some 13 (fits word j)) {k = k - 1} (omega arith)
    (some_holds 13 (fits word (k - 1)) {k = g.m} (omega (arith, good_power g))
    (rw (e, le-leb _ _ g.power, lt-ltb _ _ g.greatest, eq-eqb _ _ g.word_is) tt))

-- a pitch that is not refused is good for some a
pub pitch_passes : (word : ℕ) → bad_pitch word ≡ false → (a : ℕ) × Good word a
unfolding bad_pitch
pitch_passes word e = good_value_means word (subst T (sym (not-false (good_value word) e)) tt)

-- a good pitch is not refused
pub pitch_good : {word a : ℕ} → Good word a → bad_pitch word ≡ false
unfolding bad_pitch
pitch_good {word} g = ap not (is_true (good_value word) (good_value_holds g))

-- a setting opens to one pair of numbers
pub opened_unique : {s : Setting} {a b a' b' : ℕ} → Opened s a b → Opened s a' b' → (a ≡ a') × (b ≡ b')
opened_unique o o' = (good_k_unique o.pitch_good o'.pitch_good, good_k_unique o.radius_good o'.radius_good)

-- neither of two tests fails exactly where both pass
both : (p q : Bool) → ((not p || not q) ≡ false) ↔ (T p × T q)
both true true = (λ e. (tt, tt), λ h. refl)
both true false = (λ e. absurd (true≢false e), λ h. absurd h.1)
both false q = (λ e. absurd (true≢false e), λ h. absurd h.0)

-- a setting that is not refused opens
pub setting_good : (s : Setting) → bad_setting s ≡ false → (a : ℕ) × (b : ℕ) × Opened s a b
unfolding bad_setting
setting_good s e =
    let good = (both (good_value (pitch_word s)) (good_value (radius_word s))).0 e in
    let pitch = good_value_means (pitch_word s) good.0 in
    let radius = good_value_means (radius_word s) good.1 in
    (pitch.0, radius.0, record { pitch_good = pitch.1; radius_good = radius.1 })

-- a setting that opens is not refused
pub opened_good : {s : Setting} {a b : ℕ} → Opened s a b → bad_setting s ≡ false
unfolding bad_setting
opened_good {s} o =
    (both (good_value (pitch_word s)) (good_value (radius_word s))).1
    (good_value_holds o.pitch_good, good_value_holds o.radius_good)

-- a good word has an exponent from 121 to 133
good_within : {word k : ℕ} → Good word k → (121 * 2 ^ 23 ≤ word) × (word < 134 * 2 ^ 23)
good_within g = omega (arith, good_exponent g, good_power g)

-- a test that cannot pass fails
fails : (b : Bool) → (T b → ⊥) → b ≡ false
fails true h = absurd (h tt)
fails false h = refl

-- "NaN, infinities, negatives and both zeros are bad.": the word of zero is 0; infinities and NaNs have an exponent of
-- 255, and what has a sign, the other zero too, has a word of 256·2^23 or more
pub named_bad : (word : ℕ) → (word ≡ 0) ⊎ (255 * 2 ^ 23 ≤ word) → good_value word ≡ false
named_bad word h =
    fails (good_value word)
    (λ t. let g = good_within (good_value_means word t).1 in ⊎_elim (λ e. omega (arith, g)) (λ l. omega (arith, g)) h)
