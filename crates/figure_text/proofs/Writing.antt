-- A number of at least 10^k has more than k digits, and one below 10^(k + 1) has no more than k + 1; 0 has one, as 1 has.
-- Digits are put from the last one to the first: each stands in front of those put before it. Assumes nothing.
use mathlib.Core.Path.{◌≡◌, ◌∙◌}
use mathlib.Core.Logic.{by_cases}
use mathlib.Core.List.{List, ◌∷◌}
use Prim.Native.Nat.{ℕ, zero, suc, ◌+◌, ◌-◌, ◌*◌, ◌/◌, ◌%◌, ◌^◌, ◌≤◌, ◌<◌, max}
use native.Mathlib.Decide.{dec_lt}
use native.Mathlib.Nat.{one-le-pow, pow-suc}
use native.Mathlib.Omega.{arith}
use lib.Dec.{lit<, lit≤}
use lib.ListN.{length, set, drop, length-set}
use borrow.Author.Tests.{lt-ltb, le-ltb}
use Rattle.rules.specs.BenchFile.{decimal}
use Rattle.rules.specs.Millimetres.{last_digits}
use Rattle.rules.proofs.Digits.{stored, digit_count, decimal_count, decimal_most}

-- a number of at least 10^k has more than k digits
count_least : (most k n : ℕ) → k < most → 10 ^ k ≤ max n 1 → k < digit_count most n
count_least zero k n h big = absurd (omega arith)
count_least (suc most) zero n h big =
    by_cases (dec_lt n 10) (λ one. rw (lt-ltb n 10 one) (lit≤ tt)) (λ more. rw (le-ltb n 10 (omega arith)) (omega arith))
count_least (suc most) (suc k) n h big =
    let tens : 10 ^ k * 10 ≤ max n 1 = rw (pow-suc 10 k) at big in
    let ten : 10 ≤ n = omega (arith, one-le-pow k 10 (lit< tt)) in
    let rest : k < digit_count most (n / 10) = count_least most k (n / 10) (omega arith) (omega arith) in
    rw (le-ltb n 10 ten) (omega arith)

-- so its digits are one more than the whole part of its logarithm
pub log_counts : (n k : ℕ) → k < 10 → 10 ^ k ≤ max n 1 → max n 1 < 10 * 10 ^ k → k + 1 ≡ length (decimal n)
log_counts n k h big small =
    let most : length (decimal n) ≤ suc k = decimal_most k {n = n} (rw (pow-suc 10 k) (omega arith)) in
    omega (arith, count_least 10 k n h big, decimal_count n)

-- the digits from place i on are put; those of the rest are to come, in front of it
pub record Placing (begin count number : ℕ) (before now : List ℕ) (rest i : ℕ) : Type 0 where
  pub from : begin ≤ i
  pub as_long : length now ≡ length before
  pub reads : last_digits (i - begin) rest (drop i now) ≡ last_digits count number (drop (begin + count) before)

module _ {begin count number : ℕ} {before now : List ℕ} {rest i : ℕ} (P : Placing begin count number before now rest i) where
  -- one digit more
  pub placing_more : begin < i → i ≤ length before
      → Placing begin count number before (set now (i - 1) (48 + rest % 10)) (rest / 10) (i - 1)
  placing_more some room =
      let j : ℕ = i - 1 in
      let v : ℕ = 48 + rest % 10 in
      let left : i - begin ≡ suc (j - begin) = omega arith in
      let next : j + 1 ≡ i = omega arith in
      let put : drop j (set now j v) ≡ v ∷ drop i now = rw next at (stored now j v (omega (arith, P.as_long))) in
      record {
        from = omega arith;
        as_long = length-set now j v ∙ P.as_long;
        reads = rw put (rw left at P.reads);
      }
