-- The rules say what documents 01 and 02 say at every edge of their rows. Of each edge there is a test that computes, and
-- where the test passes the edge holds; the tests of all edges pass.
--
-- Two numbers are compared, and a root is squared. A value of a setting, or a pitch by itself, is tested for each m below
-- 13: the word and m leave one k (`good_is`), so there is no need to try every k as row 8 does (`quick`). Assumes nothing.
use mathlib.Core.Path.{◌≡◌, refl, sym, ◌∙◌, ap}
use mathlib.Core.Bool.{Bool, true, false, not, ◌&&◌, ◌||◌}
use mathlib.Core.List.{List, [], ◌∷◌}
use Prim.Native.Nat.{ℕ, ◌+◌, ◌-◌, ◌*◌, ◌/◌, ◌^◌, ◌<◌}
use native.Mathlib.Omega.{arith}
use lib.Dec.{T, leb, ltb, eqb}
use lib.Ieee.{to_bits, size}
use lib.Ieee.Bits.{is_true}
use lib.Pow.{shl-shr}
use mir.Facts.{leb_yes, ltb_yes, eqb_yes, yes_eqb}
use borrow.Author.Tests.{le-leb, lt-ltb}
use Rattle.rules.specs.declared.Setting.{Setting}
use Rattle.rules.specs.Limits.{knob_limit}
use Rattle.rules.specs.Knob.{Good, good_word, pitch_word, radius_word}
use Rattle.rules.specs.Refusals.{some, answer, bad_setting}
use Rattle.rules.specs.Refusals.{bad_sides, bad_kind, bad_weights, bad_buffers, bad_path, bad_slices, bad_byte}
use Rattle.rules.specs.Refusals.{bad_cost, no_bore, all_marked, bad_ends, good_value, bad_changeover, bad_length}
use Rattle.rules.specs.Refusals.{bad_line, bad_word, short_text, bad_pitch}
use Rattle.rules.specs.Calls.{Opened}
use Rattle.rules.specs.Millimetres.{word_32}
use Rattle.rules.specs.Edges.{Edge, number, call, opening, no_opening, good_pitch, no_pitch, whole_root, setting}
use Rattle.rules.specs.Edges.{EdgeHolds, Met, edges}
use Rattle.rules.proofs.Knob.{some_means, some_holds, good_value_means, good_value_holds, pitch_good, opened_good}
use Rattle.rules.proofs.FloatWord.{exponent_below}
use Rattle.rules.proofs.Calls.{made_call}
use Rattle.rules.proofs.Samples.{parts}

-- the word is that of the good value for k, with 2^m the greatest power of two not above k
abbrev pub fits : ℕ → ℕ → ℕ → Bool
fits word k m =
    leb 1 k && leb k knob_limit && leb (2 ^ m) k && ltb k (2 ^ (m + 1)) && eqb word (good_word k m)

-- where that test passes, the word is good for k
fits_means : (word k m : ℕ) → T (fits word k m) → Good word k
fits_means word k m t = record {
  from = leb_yes (search parts);
  to = leb_yes (search parts);
  m = m;
  power = leb_yes (search parts);
  greatest = ltb_yes (search parts);
  word_is = eqb_yes (search parts);
}

-- the word is good for k
abbrev pub good_for : ℕ → ℕ → Bool
good_for word k = some 13 (fits word k)

-- where that test passes, it is
pub good_for_means : (word k : ℕ) → T (good_for word k) → Good word k
good_for_means word k t = let (m, l, u) = some_means 13 (fits word k) t in fits_means word k m u

-- a setting opens to a and b
abbrev pub opens : Setting → ℕ → ℕ → Bool
opens s a b = good_for (pitch_word s) a && good_for (radius_word s) b

-- where that test passes, it does
pub opens_means : (s : Setting) (a b : ℕ) → T (opens s a b) → Opened s a b
opens_means s a b t = record {
  pitch_good = good_for_means (pitch_word s) a (search parts);
  radius_good = good_for_means (radius_word s) b (search parts);
}

-- the one k that a word can be good for with a given m
abbrev pub k_of : ℕ → ℕ → ℕ
k_of word m = 2 ^ m + (word - (m + 121) * 2 ^ 23) / 2 ^ (23 - m)

-- it is that k
good_is : {word k : ℕ} (g : Good word k) → k_of word g.m ≡ k
good_is {word} {k} g =
    let m = g.m in
    let rest : word - (m + 121) * 2 ^ 23 ≡ (k - 2 ^ m) * 2 ^ (23 - m) = omega (arith, g.word_is) in
    let e : (word - (m + 121) * 2 ^ 23) / 2 ^ (23 - m) ≡ k - 2 ^ m =
    ap (λ (n : ℕ). n / 2 ^ (23 - m)) rest ∙ shl-shr (k - 2 ^ m) (23 - m) in
    omega (arith, g.power)

-- the word is good for the one k of some m
abbrev pub found : ℕ → Bool
found word = some 13 (λ m. fits word (k_of word m) m)

-- it is, where it is good for any k
found_holds : {word k : ℕ} → Good word k → T (found word)
found_holds {word} {k} g =
    let m = g.m in
    let small : m < 13 = exponent_below m 13 g.power (omega (arith, g.to)) in
    let fit : T (fits word k m) =
    rw (le-leb _ _ g.from, le-leb _ _ g.to, le-leb _ _ g.power, lt-ltb _ _ g.greatest) (yes_eqb g.word_is) in
    some_holds 13 (λ m. fits word (k_of word m) m) small (rw (good_is g) fit)

-- two tests that pass together are one
one_test : (p q : Bool) → (T p → T q) → (T q → T p) → p ≡ q
one_test true q f g = sym (is_true q (f tt))
one_test false true f g = absurd (g tt)
one_test false false f g = refl

-- so the test of row 8 need not try every k
quick : (word : ℕ) → good_value word ≡ found word
quick word =
    one_test (good_value word) (found word) (λ t. found_holds (good_value_means word t).1)
    (λ t.
    let (m, l, u) = some_means 13 (λ m. fits word (k_of word m) m) t in good_value_holds (fits_means word (k_of word m) m u))

-- row 8 by the quick test
abbrev pub bad : Setting → Bool
bad s = not (found (pitch_word s)) || not (found (radius_word s))

-- it is row 8
pub bad_is : (s : Setting) → bad_setting s ≡ bad s
unfolding bad_setting
bad_is s = rw (quick (pitch_word s), quick (radius_word s)) refl

-- and for a pitch by itself
pub bad_pitch_is : (word : ℕ) → bad_pitch word ≡ not (found word)
unfolding bad_pitch
bad_pitch_is word = ap not (quick word)

-- the test of an edge
abbrev passes : Edge → Bool
passes (number computed stated) = eqb computed stated
passes (call rows n) = eqb (answer rows) n
passes (opening pitch radius a b) = opens (setting pitch radius) a b
passes (no_opening pitch radius) = bad (setting pitch radius)
passes (good_pitch p a) = good_for (word_32 p) a
passes (no_pitch p) = not (found (word_32 p))
passes (whole_root x n) = leb (n * n) x && ltb x ((n + 1) * (n + 1))

-- slices of one word are not refused
one_word : bad_slices 1 1 ≡ false
unfolding bad_slices
one_word = refl

-- nor are 20 bytes for a text
twenty_bytes : short_text 20 ≡ false
unfolding short_text
twenty_bytes = refl

-- an edge that passes holds
sound : (e : Edge) → T (passes e) → EdgeHolds e
sound (number computed stated) t = eqb_yes t
sound (call rows n) t = eqb_yes t
sound (opening pitch radius a b) t =
    let opened = opens_means (setting pitch radius) a b t in made_call (rw (opened_good opened) refl) opened
sound (no_opening pitch radius) t =
    let s = setting pitch radius in
    let e : bad_setting s ≡ true = bad_is s ∙ is_true (bad s) t in
    (rw e refl, rw (one_word, e) refl)
sound (good_pitch p a) t =
    let good = good_for_means (word_32 p) a t in (good, rw (pitch_good good) refl)
sound (no_pitch p) t =
    let e : bad_pitch (word_32 p) ≡ true = bad_pitch_is (word_32 p) ∙ is_true (not (found (word_32 p))) t in
    (rw e refl, rw (twenty_bytes, e) refl)
sound (whole_root x n) t = record { within = leb_yes (search parts); greatest = ltb_yes (search parts) }

-- all edges of a list pass
abbrev all_pass : List Edge → Bool
all_pass [] = true
all_pass (e ∷ es) = passes e && all_pass es

-- where all edges of a list pass, every one holds
met_by : (es : List Edge) → T (all_pass es) → Met es
met_by [] t = tt
met_by (e ∷ es) t = (sound e (search parts), met_by es (search parts))

-- every edge holds: all tests pass, once the tests of the rows and the words of values compute
pub edges_met : Met edges
unfolding bad_sides bad_kind bad_weights bad_buffers bad_path bad_slices bad_byte bad_cost no_bore all_marked bad_ends
    good_value bad_setting bad_changeover bad_length bad_line bad_word short_text bad_pitch to_bits size
edges_met = met_by edges tt
