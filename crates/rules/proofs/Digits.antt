-- Decimal digits as bytes: those of a number with none needless (`digits`), and so many last ones with zeros in front
-- (`last_digits`). Either stand in front of what follows them, which they leave as it is. Read from the left, last digits
-- give the number back, and the leading digit of a number that is not 0 is no zero. The digits of a number are as many of
-- its last digits as it has (`digits_last`); so they are digits and say the number, too. A byte stored in a list stands in
-- front of what follows it there. Assumes nothing.
use mathlib.Core.Path.{◌≡◌, refl, sym, ap, ◌∙◌, subst}
use mathlib.Core.Logic.{by_cases}
use mathlib.Core.Bool.{Bool, true, false, cond}
use mathlib.Core.List.{List, [], ◌∷◌, ◌++◌}
use Prim.Native.Nat.{ℕ, zero, suc, ◌+◌, ◌-◌, ◌*◌, ◌/◌, ◌%◌, ◌^◌, ◌≤◌, ◌<◌}
use native.Mathlib.Decide.{dec_lt}
use native.Mathlib.Nat.{pow-suc, div-lt_iff_lt-mul}
use native.Mathlib.Numerals.{add-one}
use native.Mathlib.Omega.{arith}
use lib.Dec.{ltb, lit<, lit≤}
use lib.ListN.{length, get_or, set, drop}
use lib.Seq.{lt-length-set, drop-cons, get_or-set_same, drop-set-lt}
use borrow.Author.Tests.{lt-ltb, le-ltb}
use Rattle.rules.specs.BenchFile.{digits, decimal}
use Rattle.rules.specs.Millimetres.{last_digits, Digits, read}

-- a tenth of a number has one digit less
pub tenth_below : {n : ℕ} (k : ℕ) → n < 10 ^ suc k → n / 10 < 10 ^ k
tenth_below k small = (div-lt_iff_lt-mul (lit< tt)).1 (rw (pow-suc 10 k) at small)

-- a byte stored at a place stands in front of what follows it
pub stored : (l : List ℕ) (j v : ℕ) → j < length l → drop j (set l j v) ≡ v ∷ drop (j + 1) l
stored l j v h =
    drop-cons (set l j v) j 0 (lt-length-set l j v h)
    ∙ rw (get_or-set_same l j v 0 h, drop-set-lt (suc j) l j v (omega arith), add-one j)

-- digits in front of some bytes are the digits, and then the bytes
pub digits_before : (most n : ℕ) (first after : List ℕ) → digits most n (first ++ after) ≡ digits most n first ++ after
digits_before zero n first after = refl
digits_before (suc most) n first after =
    either (ltb n 10) _ _ _ _ refl (digits_before most (n / 10) ((48 + n % 10) ∷ first) after)
  where
    either : (b : Bool) (x y u v : List ℕ) → x ≡ u ++ after → y ≡ v ++ after → cond b x y ≡ cond b u v ++ after
    either true x y u v p q = p
    either false x y u v p q = q

-- and so are last digits
pub last_before : (count n : ℕ) (first after : List ℕ)
    → last_digits count n (first ++ after) ≡ last_digits count n first ++ after
last_before zero n first after = refl
last_before (suc count) n first after = last_before count (n / 10) ((48 + n % 10) ∷ first) after

-- last digits are digits
pub last_all_digits : (count n : ℕ) (after : List ℕ) → Digits after → Digits (last_digits count n after)
last_all_digits zero n after d = d
last_all_digits (suc count) n after d =
    last_all_digits count (n / 10) ((48 + n % 10) ∷ after) (omega arith, omega arith, d)

-- there are as many as are asked for
pub last_length : (count n : ℕ) (after : List ℕ) → length (last_digits count n after) ≡ count + length after
last_length zero n after = omega arith
last_length (suc count) n after = omega (arith, last_length count (n / 10) ((48 + n % 10) ∷ after))

-- and they say the number, if it has no more
pub last_read : (count n : ℕ) (after : List ℕ) → n < 10 ^ count → read 0 (last_digits count n after) ≡ read n after
last_read zero n after small = let none : n ≡ 0 = omega arith in rw none refl
last_read (suc count) n after small =
    let whole : n / 10 * 10 + (48 + n % 10 - 48) ≡ n = omega arith in
    last_read count (n / 10) ((48 + n % 10) ∷ after) (tenth_below count small) ∙ ap (λ k. read k after) whole

-- the first digit of a number that is not 0 is no zero
leading_digit : (most n : ℕ) (after : List ℕ) → 0 < n → n < 10 ^ most → 49 ≤ get_or (digits most n after) 0 0
leading_digit zero n after some small = absurd (omega arith)
leading_digit (suc most) n after some small =
    by_cases (dec_lt n 10) (λ one. rw (lt-ltb n 10 one) (omega arith))
    (λ more.
    rw (le-ltb n 10 (omega arith))
    (leading_digit most (n / 10) ((48 + n % 10) ∷ after) (omega arith) (tenth_below most small)))

-- of two digits or more the first is no zero
pub two_digits : (n : ℕ) → n < 10 ^ 10 → 2 ≤ length (decimal n) → 49 ≤ get_or (decimal n) 0 0
two_digits zero small two = absurd (omega arith)
two_digits (suc n) small two = leading_digit 10 (suc n) [] (omega arith) small

-- how many digits a number has, 1 for 0, with so many looked at
abbrev pub digit_count : ℕ → ℕ → ℕ
digit_count zero n = 0
digit_count (suc most) n = cond (ltb n 10) 1 (suc (digit_count most (n / 10)))

-- a number's digits are so many of its last digits
digits_last : (most n : ℕ) (after : List ℕ) → digits most n after ≡ last_digits (digit_count most n) n after
digits_last zero n after = refl
digits_last (suc most) n after =
    by_cases (dec_lt n 10) (λ one. let same : n % 10 ≡ n = omega arith in rw (lt-ltb n 10 one, same) refl)
    (λ more. rw (le-ltb n 10 (omega arith)) (digits_last most (n / 10) ((48 + n % 10) ∷ after)))

-- and none is left out
count_enough : (most n : ℕ) → n < 10 ^ most → n < 10 ^ digit_count most n
count_enough zero n small = small
count_enough (suc most) n small =
    by_cases (dec_lt n 10) (λ one. rw (lt-ltb n 10 one) one)
    (λ more.
    let rest : n / 10 < 10 ^ digit_count most (n / 10) = count_enough most (n / 10) (tenth_below most small) in
    let all : n < 10 ^ suc (digit_count most (n / 10)) =
    rw (pow-suc 10 (digit_count most (n / 10))) ((div-lt_iff_lt-mul (lit< tt)).0 rest) in
    rw (le-ltb n 10 (omega arith)) all)

-- nor is there one too many
count_most : (most k n : ℕ) → n < 10 ^ suc k → digit_count most n ≤ suc k
count_most zero k n small = omega arith
count_most (suc most) zero n small = rw (lt-ltb n 10 small) (lit≤ tt)
count_most (suc most) (suc k) n small =
    by_cases (dec_lt n 10) (λ one. rw (lt-ltb n 10 one) (omega arith))
    (λ more.
    let few : digit_count most (n / 10) ≤ suc k = count_most most k (n / 10) (tenth_below (suc k) small) in
    rw (le-ltb n 10 (omega arith)) (omega arith))

-- every number has one digit at least
some_count : (most n : ℕ) → 1 ≤ digit_count (suc most) n
some_count most n =
    by_cases (dec_lt n 10) (λ one. rw (lt-ltb n 10 one) (lit≤ tt)) (λ more. rw (le-ltb n 10 (omega arith)) (omega arith))

-- so many digits a number has in decimal
pub decimal_count : (n : ℕ) → length (decimal n) ≡ digit_count 10 n
decimal_count n = omega (arith, ap length (digits_last 10 n []) ∙ last_length (digit_count 10 n) n [])

-- so many of its last digits are all of them
pub decimal_last : (n : ℕ) (after : List ℕ) → last_digits (length (decimal n)) n after ≡ decimal n ++ after
decimal_last n after =
    ap (λ k. last_digits k n after) (decimal_count n) ∙ sym (digits_last 10 n after) ∙ digits_before 10 n [] after

-- one at least
pub decimal_some : (n : ℕ) → 1 ≤ length (decimal n)
decimal_some n = omega (arith, decimal_count n, some_count 9 n)

-- and at most k + 1 where it is below 10^(k + 1)
pub decimal_most : (k : ℕ) {n : ℕ} → n < 10 ^ suc k → length (decimal n) ≤ suc k
decimal_most k {n} small = omega (arith, decimal_count n, count_most 10 k n small)

-- they are digits
pub decimal_digits : (n : ℕ) → Digits (decimal n)
decimal_digits n = subst Digits (sym (digits_last 10 n [])) (last_all_digits (digit_count 10 n) n [] tt)

-- and say the number
pub decimal_read : (n : ℕ) → n < 10 ^ 10 → read 0 (decimal n) ≡ n
decimal_read n small =
    ap (read 0) (digits_last 10 n []) ∙ last_read (digit_count 10 n) n [] (count_enough 10 n small)
