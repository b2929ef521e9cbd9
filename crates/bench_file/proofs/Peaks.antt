-- The first of the greatest words, found by going through them once: a word takes the place only where it is greater than
-- the greatest before it, so of equal words the first stays. Assumes nothing.
use mathlib.Core.Path.{◌≡◌}
use mathlib.Core.Logic.{by_cases}
use mathlib.Core.List.{List}
use Prim.Native.Nat.{ℕ, ◌+◌, ◌≤◌, ◌<◌}
use native.Mathlib.Nat.{le_refl}
use native.Mathlib.Decide.{ℕ_discrete}
use native.Mathlib.Omega.{arith}
use lib.ListN.{get_or}
use Rattle.bench_file.specs.Reading.{Peak}

-- of one word the first is the greatest
pub peak_one : (words : List ℕ) → Peak words 1 0
peak_one words = record { within = omega arith; greatest = only; first = λ k l. absurd (omega arith) }
  where
    only : (k : ℕ) → k < 1 → get_or words k 0 ≤ get_or words 0 0
    only k l = let same : k ≡ 0 = omega arith in rw same (le_refl (get_or words 0 0))

module _ {words : List ℕ} {n place : ℕ} (P : Peak words n place) where
  -- a word that is not greater changes nothing
  pub peak_stays : get_or words n 0 ≤ get_or words place 0 → Peak words (n + 1) place
  peak_stays h =
      record {
        within = omega (arith, P.within);
        greatest = λ k l. by_cases (ℕ_discrete k n) (λ e. rw e h) (λ other. P.greatest k (omega arith));
        first = P.first;
      }

  -- a greater word takes the place
  pub peak_moves : get_or words place 0 < get_or words n 0 → Peak words (n + 1) n
  peak_moves h =
      record {
        within = omega arith;
        greatest = λ k l.
            by_cases (ℕ_discrete k n) (λ e. rw e (le_refl (get_or words n 0)))
            (λ other. omega (arith, P.greatest k (omega arith)));
        first = λ k l. omega (arith, P.greatest k l);
      }
