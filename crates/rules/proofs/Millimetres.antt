-- Millimetres on the screen: one root, one word, one text, and all three say the same number.
--
-- A number has one whole root, since squares rise. The figure's word is that of N over 2^8 (`FloatWord`), or 0: for N
-- below 2^53 an f64 has it exactly if its sign is positive and its value is N/256 (`figure_exactly`). The text's digits,
-- read from the left, give the whole part and the tail back (`Digits`). So for N below 2^32 the text says N·390,625
-- hundred-millionths, and that is N/256 (`text_says`). A figure and a text of one root say one number (`told_alike`).
-- Assumes nothing.
use mathlib.Core.Path.{◌≡◌, refl, sym, ap, ◌∙◌, subst}
use mathlib.Core.Logic.{◌↔◌, by_cases}
use mathlib.Core.Bool.{true, false, true≢false}
use mathlib.Core.List.{List, [], ◌∷◌}
use Prim.Native.Nat.{ℕ, zero, suc, ◌+◌, ◌-◌, ◌*◌, ◌/◌, ◌%◌, ◌^◌, ◌≤◌, ◌<◌}
use native.Mathlib.Decide.{dec_lt}
use native.Mathlib.Nat.{mul-le-mul, zero-div}
use native.Mathlib.Omega.{arith}
use lib.Dec.{lit<}
use lib.ListN.{length, take, drop, length-append}
use lib.Seq.{take_at}
use lib.Ieee.{Float, nan, inf, fin, binary64, to_bits, round, fits, up, down, size}
use lib.Ieee.Bits.{is_true}
use lib.Ieee.Fits.{round-fits}
use lib.Ieee.Exact.{HasValue}
use Rattle.rules.specs.Limits.{knob_limit}
use Rattle.rules.specs.BenchFile.{decimal}
use Rattle.rules.specs.Millimetres.{word_64, Root, FigureWord, FigureValue, last_digits, millimetre_text}
use Rattle.rules.specs.Millimetres.{read, Says, Figured, Spelled, centre_under}
use Rattle.rules.proofs.Farthest.{square_most}
use Rattle.rules.proofs.Digits.{last_all_digits, last_length, last_read, two_digits}
use Rattle.rules.proofs.Digits.{decimal_some, decimal_most, decimal_digits, decimal_read}
use Rattle.rules.proofs.FloatWord.{leading, exponent_below, one_exponent, word_of_value, fraction_exact, one_value}

-- a smaller square has a smaller root
root_below : (a b : ℕ) → a * a < b * b → a < b
root_below a b h =
    by_cases (dec_lt a b) (λ l. l)
    (λ far.
    let squares : b * b ≤ a * a = square_most b a (omega arith) in
    absurd (omega arith))

-- no whole number above the root has a square that is not above x
pub root_greatest : {x n : ℕ} → Root x n → (k : ℕ) → k * k ≤ x → k ≤ n
root_greatest {x} {n} r k h = omega (arith, root_below k (n + 1) (omega (arith, r.greatest)))

-- a number has one root
pub root_unique : {x n n' : ℕ} → Root x n → Root x n' → n ≡ n'
root_unique {x} {n} {n'} r r' = omega (arith, root_greatest r n' r'.within, root_greatest r' n r.within)

-- the root of a number below b² is below b
pub root_small : {x n : ℕ} → Root x n → (b : ℕ) → x < b * b → n < b
root_small {x} {n} r b h = root_below n b (omega (arith, r.within))

-- N has one word
pub figure_word_unique : (n : ℕ) {word word' : ℕ} → FigureWord word n → FigureWord word' n → word ≡ word'
figure_word_unique zero p q = p ∙ sym q
figure_word_unique (suc n) p q =
    let same : p.m ≡ q.m = one_exponent p.power p.greatest q.power q.greatest in
    cc (p.word_is, q.word_is)

-- the f64 N/256
abbrev pub figure_float : ℕ → Float
figure_float n = round binary64 false n 256

-- it is N/256 exactly, for N below 2^53
pub figure_value : {n : ℕ} → n < 2 ^ 53 → FigureValue (figure_float n) n
figure_value {n} small = fraction_exact binary64 n 8 (lit< tt) small

-- an f64 that is positive and has no size has the word 0
zero_word : (v : Float) → FigureValue v 0 → word_64 v ≡ 0
unfolding to_bits size
zero_word nan h = absurd h
zero_word (inf s) h = absurd h
zero_word (fin true m e) h = absurd (true≢false h.0)
zero_word (fin false m e) h =
    let none : m * up e ≡ 0 = omega (arith, h.1) in
    let units : m * up e * 2 ^ 1074 / down e ≡ 0 = ap (λ (x : ℕ). x * 2 ^ 1074 / down e) none ∙ zero-div (down e) in
    ap (λ (x : ℕ). 0 + (size x - 53) * 2 ^ 52 + x / 2 ^ (size x - 53)) units

-- an f64 of the value N/256, with the positive sign and N below 2^53, has the figure's word
pub value_figure : (v : Float) (n : ℕ) → n < 2 ^ 53 → FigureValue v n → FigureWord (word_64 v) n
value_figure v zero small h = zero_word v h
value_figure v (suc n) small h =
    let (m, power, greatest) = leading (suc n) (omega arith) in
    let few : m < 53 = exponent_below m 53 power small in
    record {
      m = m;
      power = power;
      greatest = greatest;
      word_is = word_of_value binary64 v (suc n) m 8 (lit< tt) few power greatest h;
    }

-- An f64 has the figure's word of N exactly if it is positive and its value is N/256, for N below 2^53.
pub figure_exactly : (v : Float) (n : ℕ) → fits binary64 v ≡ true → n < 2 ^ 53
    → FigureWord (word_64 v) n ↔ FigureValue v n
figure_exactly v n f small =
    let x = figure_float n in
    let whole : FigureValue x n = figure_value small in
    let fit : fits binary64 x ≡ true = is_true (fits binary64 x) (round-fits binary64 false n 256) in (
      λ w.
          subst (λ (y : Float). FigureValue y n)
          (sym (one_value binary64 v x f fit (figure_word_unique n w (value_figure x n small whole)))) whole,
      value_figure v n small,
    )

-- The text of N says N·390,625 hundred-millionths, for N below 2^32.
pub text_says : (n : ℕ) → n < 2 ^ 32 → Says (millimetre_text n) (n * 390_625)
text_says n small =
    let whole = n / 256 in
    let tail = n % 256 * 390_625 in
    let ten : whole < 10 ^ 10 = omega arith in
    let tail_reads : read 0 (last_digits 8 tail []) ≡ tail = last_read 8 tail [] (omega arith) in
    record {
      whole = decimal whole;
      tail = last_digits 8 tail [];
      text_is = refl;
      whole_digits = decimal_digits whole;
      some_digit = decimal_some whole;
      no_leading_zero = two_digits whole ten;
      tail_digits = last_all_digits 8 tail [] tt;
      tail_eight = last_length 8 tail [];
      says = rw (decimal_read whole ten, tail_reads) (omega arith);
    }

-- a text is as long as its whole digits, and nine bytes more
pub text_length : (n : ℕ) → length (millimetre_text n) ≡ length (decimal (n / 256)) + 9
text_length n =
    let tail = n % 256 * 390_625 in
    let back : length (last_digits 8 tail []) ≡ 8 + 0 = last_length 8 tail [] in
    length-append (decimal (n / 256)) (46 ∷ last_digits 8 tail []) ∙ omega arith

-- What stands under the root of a u32 and a good pitch is below 2^60.
pub centre_small : {d a : ℕ} → d < 2 ^ 32 → a ≤ knob_limit → centre_under d a < 2 ^ 60
centre_small {d} {a} word to =
    let squares : a * a ≤ knob_limit * knob_limit = square_most a knob_limit to in
    let sixteen : 16 * d ≤ 16 * (2 ^ 32 - 1) = omega arith in
    let most : 16 * d * (a * a) ≤ 16 * (2 ^ 32 - 1) * (knob_limit * knob_limit) = mul-le-mul sixteen squares in
    omega arith

-- So N is below 2^30.
pub centre_root_small : {d a n : ℕ} → d < 2 ^ 32 → a ≤ knob_limit → Root (centre_under d a) n → n < 2 ^ 30
centre_root_small {d} {a} word to root = root_small root (2 ^ 30) (omega (arith, centre_small {d = d} {a = a} word to))

-- So a text is from 10 to 16 bytes long, whatever the distance.
pub text_from_to : {d a n : ℕ} → d < 2 ^ 32 → a ≤ knob_limit → Root (centre_under d a) n
    → (10 ≤ length (millimetre_text n)) × (length (millimetre_text n) ≤ 16)
text_from_to {d} {a} {n} word to root =
    let small : n < 2 ^ 30 = centre_root_small {d = d} {a = a} word to root in
    let whole : n / 256 < 10 ^ 7 = omega arith in
    (omega (arith, text_length n, decimal_some (n / 256)), omega (arith, text_length n, decimal_most 6 whole))

-- a float of the value n/256 has that value in hundred-millionths
in_hundred_millionths : (v : Float) (n : ℕ) → FigureValue v n → HasValue v false (n * 390_625) (10 ^ 8)
in_hundred_millionths nan n h = absurd h
in_hundred_millionths (inf s) n h = absurd h
in_hundred_millionths (fin true m e) n h = absurd (true≢false h.0)
in_hundred_millionths (fin false m e) n h = (refl, omega (arith, h.1))

-- a figure and a text of one N say the same number
one_number : (v : Float) (n : ℕ) → fits binary64 v ≡ true → n < 2 ^ 32 → FigureWord (word_64 v) n
    → (h : ℕ) × Says (millimetre_text n) h × HasValue v false h (10 ^ 8)
one_number v n f small word = (
  n * 390_625,
  text_says n small,
  in_hundred_millionths v n ((figure_exactly v n f (omega arith)).0 word),
)

-- A figure and a text that tell the root of one number say the same number, whatever stands under the root.
pub told_alike : {x count : ℕ} {v : Float} {before after : List ℕ} → x < 2 ^ 64 → fits binary64 v ≡ true → Figured x v
    → Spelled x before after count → (h : ℕ) × Says (take count after) h × HasValue v false h (10 ^ 8)
told_alike {x} {count} {v} {before} {after} word f p q =
    let same : p.n ≡ q.n = root_unique p.root q.root in
    let small : p.n < 2 ^ 32 = root_small p.root (2 ^ 32) (omega arith) in
    let t = q.text in
    let letters : millimetre_text p.n ≡ take count after =
    ap millimetre_text same
    ∙ sym (ap (take count) t.after_is ∙ take_at (millimetre_text q.n) (drop count before) count (sym t.count_is)) in
    let (h, says, value) = one_number v p.n f small p.figure in
    (h, subst (λ l. Says l h) letters says, value)
