-- Digits put in front of a place, the last one first: each store puts one in front of what was put before it, and in that
-- order they come by themselves. Assumes nothing.
use mathlib.Core.Path.{◌≡◌, refl, ◌∙◌, sym, ap}
use mathlib.Core.List.{List, ◌∷◌, ◌++◌}
use Prim.Native.Nat.{ℕ, zero, suc, ◌+◌, ◌-◌, ◌/◌, ◌%◌, ◌^◌, ◌≤◌, ◌<◌}
use native.Mathlib.Omega.{arith}
use lib.ListN.{length, set, drop, length-set}
use borrow.Author.Tests.{le-ltb}
use Rattle.rules.specs.BenchFile.{digits}
use Rattle.rules.proofs.Digits.{tenth_below, stored}

-- a number that is not below 10 has its last digit behind those of its tenth
more_digits : (left rest : ℕ) (after : List ℕ) → 10 ≤ rest
    → digits (suc left) rest after ≡ digits left (rest / 10) ((48 + rest % 10) ∷ after)
more_digits left rest after h = rw (le-ltb rest 10 h)

-- the digits behind the place at have been put; those of the rest are to come, at most one more than are left
pub record Spelling (end number : ℕ) (before now : List ℕ) (at rest : ℕ) : Type 0 where
  pub left : ℕ
  pub place : left + end ≡ at + 10
  pub behind : at < end
  pub small : rest < 10 ^ suc left
  pub as_long : length now ≡ length before
  pub reads : digits (suc left) rest (drop (at + 1) now) ≡ digits 10 number (drop end before)

module _ {end number : ℕ} {before : List ℕ} where
  -- none yet
  pub spelling_none : 10 ≤ end → number < 10 ^ 10 → Spelling end number before before (end - 1) number
  spelling_none room small =
      let first : end - 1 + 1 ≡ end = omega arith in
      record {
        left = 9;
        place = omega arith;
        behind = omega arith;
        small = small;
        as_long = refl;
        reads = ap (λ n. digits 10 number (drop n before)) first;
      }

  module _ {now : List ℕ} {at rest : ℕ} (S : Spelling end number before now at rest) (within : end ≤ length before) where
    -- one digit more
    pub spelling_more : 10 ≤ end → 10 ≤ rest
        → Spelling end number before (set now at (48 + rest % 10)) (at - 1) (rest / 10)
    spelling_more room h = go S.left S.place S.small S.reads
      where
        go : (left : ℕ) → left + end ≡ at + 10 → rest < 10 ^ suc left
            → digits (suc left) rest (drop (at + 1) now) ≡ digits 10 number (drop end before)
            → Spelling end number before (set now at (48 + rest % 10)) (at - 1) (rest / 10)
        go zero place small reads = absurd (omega arith)
        go (suc left) place small reads =
            let last : at - 1 + 1 ≡ at = omega arith in
            record {
              left = left;
              place = omega arith;
              behind = omega (arith, S.behind);
              small = tenth_below (suc left) small;
              as_long = length-set now at (48 + rest % 10) ∙ S.as_long;
              reads =
                  ap (λ n. digits (suc left) (rest / 10) (drop n (set now at (48 + rest % 10)))) last
                  ∙ ap (digits (suc left) (rest / 10)) (stored now at (48 + rest % 10) (omega (arith, S.behind, S.as_long)))
                  ∙ sym (more_digits (suc left) rest (drop (at + 1) now) h) ∙ reads;
            }
