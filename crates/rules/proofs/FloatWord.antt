-- The IEEE 754 word of a whole number over a power of two, in either format.
--
-- In units of the format's smallest value, n/2^s is n·2^(low − s). With 2^m the greatest power of two not above n, these
-- units have m + 1 + low − s binary digits, of which the format keeps prec: the leading one adds one to the exponent's
-- field, and what is left of n fills the digits below it. The other way round, n/2^s is itself a value of the format
-- where n has no more digits than it keeps, and the product of n and 1/2^s comes to it; two values of one word are one.
-- Assumes nothing.
use mathlib.Core.Path.{◌≡◌, sym, ap, ◌∙◌, subst}
use mathlib.Core.Bool.{true, false, true≢false}
use Prim.Native.Nat.{ℕ, suc, ◌+◌, ◌-◌, ◌*◌, ◌/◌, ◌^◌, ◌≤◌, ◌<◌}
use native.Mathlib.Nat.{le_trans, lt_of_lt_of_le, lt_of_not-le, not-le_of_lt}
use native.Mathlib.Nat.{mul-one, one-mul, mul_assoc, mul_right_comm, mul-le-mul_right, mul-div_cancel}
use native.Mathlib.Omega.{arith}
use lib.IntN.{ℤ, pos}
use lib.Dec.{T, lit<, lit≤}
use lib.Pow.{pow-add, pow_mono, pow_pos, shl_lt, shl-shr}
use lib.Ieee.{Float, nan, inf, fin, Format, binary32, binary64, prec, emax, low, up, down, size}
use lib.Ieee.{to_bits, of_bits, of_int, round, mul, fits}
use lib.Ieee.Digits.{size-lt, size-le, size_reaches}
use lib.Ieee.Fits.{down_pos}
use lib.Ieee.Bits.{of_bits-to_bits}
use lib.Ieee.Exact.{HasValue, round_exact}
use lib.Ieee.Back.{round_whole}
use lib.Ieee.Positive.{positive_of_value, mul_at}

-- a power of two that is not above a number below 2^p has an exponent below p
pub exponent_below : {n : ℕ} (m p : ℕ) → 2 ^ m ≤ n → n < 2 ^ p → m < p
exponent_below m p low top = lt_of_not-le (λ far. not-le_of_lt top (le_trans (pow_mono far) low))

-- a number that is not 0 has a greatest power of two not above it
pub leading : (n : ℕ) → 0 < n → (m : ℕ) × (2 ^ m ≤ n) × (n < 2 ^ (m + 1))
leading n some =
    let z = size n in
    let one : 0 < z = exponent_below 0 z some (size-lt n) in
    let next : z ≡ z - 1 + 1 = omega arith in
    (z - 1, size_reaches n (z - 1) (omega arith), subst (λ (t : ℕ). n < 2 ^ t) next (size-lt n))

-- and only one
pub one_exponent : {n m m' : ℕ} → 2 ^ m ≤ n → n < 2 ^ (m + 1) → 2 ^ m' ≤ n → n < 2 ^ (m' + 1) → m ≡ m'
one_exponent {m = m} {m'} low top low' top' =
    omega (arith, exponent_below m (m' + 1) low top', exponent_below m' (m + 1) low' top)

-- a number from 2^m to below 2^(m+1), t places up, has m + 1 + t digits
digits : (n m t : ℕ) → 2 ^ m ≤ n → n < 2 ^ (m + 1) → size (n * 2 ^ t) ≡ m + 1 + t
digits n m t low top =
    let most : size (n * 2 ^ t) ≤ m + 1 + t = size-le (n * 2 ^ t) (m + 1 + t) (shl_lt (m + 1) t top) in
    let least : m + t < size (n * 2 ^ t) =
    exponent_below (m + t) (size (n * 2 ^ t)) (rw pow-add (mul-le-mul_right (2 ^ t) low)) (size-lt (n * 2 ^ t)) in
    omega arith

-- a power of two in two parts
in_parts : (a b c : ℕ) → a ≡ b + c → 2 ^ a ≡ 2 ^ b * 2 ^ c
in_parts a b c e = ap (λ (t : ℕ). 2 ^ t) e ∙ pow-add 2 b c

-- n/2^s in units of 1/2^l
in_units : (k : ℕ) (e : ℤ) (n s l : ℕ) → s ≤ l → k * up e * 2 ^ s ≡ n * down e
    → k * up e * 2 ^ l / down e ≡ n * 2 ^ (l - s)
in_units k e n s l small h =
    let rest = 2 ^ (l - s) in
    let power : 2 ^ l ≡ 2 ^ s * rest = in_parts l s (l - s) (omega arith) in
    let all : k * up e * 2 ^ l ≡ n * rest * down e =
    ap (λ (x : ℕ). k * up e * x) power ∙ sym (mul_assoc (k * up e) (2 ^ s) rest) ∙ ap (λ (x : ℕ). x * rest) h
    ∙ mul_right_comm n (down e) rest in
    ap (λ (x : ℕ). x / down e) all ∙ mul-div_cancel (n * rest) (down_pos e)

-- both formats keep two digits at least
keeps : (f : Format) → 2 ≤ prec f
keeps binary32 = lit≤ tt
keeps binary64 = lit≤ tt

-- the word of n/2^s, with 2^m the greatest power of two not above n
abbrev pub fraction_word : Format → ℕ → ℕ → ℕ → ℕ
fraction_word f s n m = (m + (emax f - s)) * 2 ^ (prec f - 1) + (n - 2 ^ m) * 2 ^ (prec f - 1 - m)

-- what a format of p digits writes, after a sign of 0, for so many of its smallest values
abbrev written : ℕ → ℕ → ℕ
written p units = 0 + (size units - p) * 2 ^ (p - 1) + units / 2 ^ (size units - p)

-- for n·2^t, with t = c + p − 2: the exponent's field is m + c, and what is left of n stands below it
word_written : (p c n m t : ℕ) → 2 ≤ p → 0 < c → m < p → t ≡ c + p - 2 → 2 ^ m ≤ n → n < 2 ^ (m + 1)
    → written p (n * 2 ^ t) ≡ (m + c) * 2 ^ (p - 1) + (n - 2 ^ m) * 2 ^ (p - 1 - m)
word_written p c n m t two some few is low top =
    let dropped : size (n * 2 ^ t) - p ≡ m + c - 1 = omega (arith, digits n m t low top) in
    let k = m + c - 1 in
    let q = 2 ^ (p - 1 - m) in
    let units : n * 2 ^ t ≡ n * q * 2 ^ k =
    ap (λ (x : ℕ). n * x) (in_parts t (p - 1 - m) k (omega arith)) ∙ sym (mul_assoc n q (2 ^ k)) in
    let kept : n * 2 ^ t / 2 ^ k ≡ n * q = ap (λ (x : ℕ). x / 2 ^ k) units ∙ shl-shr (n * q) k in
    let lead : 2 ^ (p - 1) ≡ 2 ^ m * q = in_parts (p - 1) m (p - 1 - m) (omega arith) in
    let rest : n ≡ 2 ^ m + (n - 2 ^ m) = omega arith in
    let split : n * q ≡ 2 ^ (p - 1) + (n - 2 ^ m) * q = omega (arith, lead, ap (λ (x : ℕ). x * q) rest) in
    let next : m + c ≡ k + 1 = omega arith in
    let both : (m + c) * 2 ^ (p - 1) ≡ k * 2 ^ (p - 1) + 2 ^ (p - 1) =
    omega (arith, ap (λ (x : ℕ). x * 2 ^ (p - 1)) next) in
    ap (λ (x : ℕ). 0 + x * 2 ^ (p - 1) + n * 2 ^ t / 2 ^ x) dropped ∙ ap (λ (x : ℕ). 0 + k * 2 ^ (p - 1) + x) kept
    ∙ omega (arith, split, both)

-- a float of the value n/2^s has that word
pub word_of_value : (f : Format) (v : Float) (n m s : ℕ) → s < emax f → m < prec f → 2 ^ m ≤ n → n < 2 ^ (m + 1)
    → HasValue v false n (2 ^ s) → to_bits f v ≡ fraction_word f s n m
unfolding to_bits
word_of_value f nan n m s small few power greatest h = absurd h
word_of_value f (inf t) n m s small few power greatest h = absurd h
word_of_value f (fin true k e) n m s small few power greatest h = absurd (true≢false h.0)
word_of_value f (fin false k e) n m s small few power greatest h =
    let two = keeps f in
    ap (written (prec f)) (in_units k e n s (low f) (omega arith) h.1)
    ∙ word_written (prec f) (emax f - s) n m (low f - s) two (omega arith) few (omega arith) power greatest

-- n/2^s is a value of the format, where n has no more digits than the format keeps
pub fraction_exact : (f : Format) (n s : ℕ) → s < emax f → n < 2 ^ prec f
    → HasValue (round f false n (2 ^ s)) false n (2 ^ s)
fraction_exact f n s small few =
    let two = keeps f in
    let j = low f - s in
    let power : 2 ^ low f ≡ 2 ^ j * 2 ^ s = in_parts (low f) j s (omega arith) in
    round_exact f false n (2 ^ s) n j (pow_pos s) few
    (lt_of_lt_of_le (shl_lt (prec f) j few) (pow_mono (reach f j (omega arith))))
    (ap (λ (x : ℕ). n * x) power ∙ sym (mul_assoc n (2 ^ j) (2 ^ s)))
  where
    reach : (f : Format) (j : ℕ) → j ≤ low f → prec f + j ≤ low f + suc (emax f)
    reach binary32 j h = omega arith
    reach binary64 j h = omega arith

-- a whole number is a value of the format, where it has no more digits than the format keeps
pub whole_exact : (f : Format) (n : ℕ) → n ≤ 2 ^ prec f → HasValue (of_int f (pos n)) false n 1
unfolding of_int
whole_exact f n few = round_whole f false n few

-- and its product with 1/c is rounded once, to n/c
pub part_of : (f : Format) (n c : ℕ) (part : Float) → 0 < n → 0 < c → n ≤ 2 ^ prec f → HasValue part false 1 c
    → mul f (of_int f (pos n)) part ≡ round f false n c
part_of f n c part some some-c few is =
    let x = of_int f (pos n) in
    let whole = whole_exact f n few in
    mul_at f x part n 1 1 c (positive_of_value x n 1 whole some) (positive_of_value part 1 c is (lit< tt)) (lit< tt) some-c
    whole is
    ∙ ap (λ (k : ℕ). round f false k (1 * c)) (mul-one n) ∙ ap (λ (k : ℕ). round f false n k) (one-mul c)

-- two values of a format that have one word are one
pub one_value : (f : Format) (v x : Float) → fits f v ≡ true → fits f x ≡ true → to_bits f v ≡ to_bits f x → v ≡ x
one_value f v x a b e =
    sym (of_bits-to_bits f v (subst T (sym a) tt)) ∙ ap (of_bits f) e ∙ of_bits-to_bits f x (subst T (sym b) tt)
