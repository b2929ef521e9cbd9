-- A list filled from the front, one place a turn: the loop that fills a buffer, whatever it puts there. Assumes nothing.
use mathlib.Core.Path.{◌≡◌, refl, ◌∙◌, sym, subst}
use mathlib.Core.Logic.{by_cases}
use mathlib.Core.List.{List}
use Prim.Native.Nat.{ℕ, ◌+◌, ◌≤◌, ◌<◌}
use native.Mathlib.Decide.{ℕ_discrete}
use native.Mathlib.Omega.{arith}
use lib.ListN.{length, get_or, set, length-set}
use lib.Seq.{get_or-set_same, get_or-set_other}

-- the places before i hold what f says, and the others what they held
pub record Filling (f : ℕ → ℕ) (before now : List ℕ) (i : ℕ) : Type 0 where
  pub as_long : length now ≡ length before
  pub done : (k : ℕ) → k < i → get_or now k 0 ≡ f k
  pub rest : (k : ℕ) → i ≤ k → get_or now k 0 ≡ get_or before k 0

module _ {f : ℕ → ℕ} {before : List ℕ} where
  -- nothing is filled yet
  pub filling_none : Filling f before before 0
  filling_none = record { as_long = refl; done = λ k h. absurd (omega arith); rest = λ k h. refl }

  -- one place more
  pub filling_more : {now : List ℕ} {i v : ℕ} → Filling f before now i → i < length before → v ≡ f i
      → Filling f before (set now i v) (i + 1)
  filling_more {now} {i} {v} F h is =
      record {
        as_long = length-set now i v ∙ F.as_long;
        done =
            λ k l.
            by_cases (ℕ_discrete k i)
            (λ e. subst (λ j. get_or (set now i v) j 0 ≡ f j) (sym e)
            (get_or-set_same now i v 0 (omega (arith, F.as_long)) ∙ is))
            (λ other. get_or-set_other now i k v 0 other ∙ F.done k (omega arith));
        rest = λ k l. get_or-set_other now i k v 0 (omega arith) ∙ F.rest k (omega arith);
      }
