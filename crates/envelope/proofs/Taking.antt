-- The events of 002's inner loop, which takes stretches off from the right while the new column u is strictly lower at
-- their start. Assumes nothing.
use mathlib.Core.Path.{◌≡◌, subst}
use mathlib.Core.Logic.{⊎_elim}
use Prim.Native.Nat.{ℕ, ◌-◌, ◌≤◌, ◌<◌}
use native.Mathlib.Nat.{le_refl, eq-or-lt_of_le}
use native.Mathlib.Omega.{arith}
use Rattle.envelope.specs.Stretches.{Kept}

-- every stretch from `kept` on is to be taken off
pub record Taken (height : ℕ → ℕ → ℕ) (u m : ℕ) (t s : ℕ → ℕ) (kept : ℕ) : Type 0 where
  pub most : kept ≤ m
  pub lower : (k : ℕ) → kept ≤ k → k < m → height u (t k) < height (s k) (t k)

module _ {height : ℕ → ℕ → ℕ} {u m : ℕ} {t s : ℕ → ℕ} where
  -- none yet
  pub none_taken : Taken height u m t s m
  none_taken = record { most = le_refl m; lower = λ k a b. absurd (omega arith) }

  -- the next one too
  pub one_taken : {kept : ℕ} → Taken height u m t s kept → 0 < kept
      → height u (t (kept - 1)) < height (s (kept - 1)) (t (kept - 1)) → Taken height u m t s (kept - 1)
  one_taken {kept} T some lt =
      record {
        most = omega (arith, T.most);
        lower =
            λ k a b.
            ⊎_elim (λ e. subst (λ j. height u (t j) < height (s j) (t j)) e lt) (λ l. T.lower k (omega arith) b)
            (eq-or-lt_of_le a);
      }

  -- the next one stays: so many are kept
  pub rest_kept : {kept : ℕ} → Taken height u m t s kept → 0 < kept
      → height (s (kept - 1)) (t (kept - 1)) ≤ height u (t (kept - 1)) → Kept height u m t s kept
  rest_kept {kept} T some le =
      record {
        most = T.most;
        taken = T.lower;
        stays = λ k e. let here : kept - 1 ≡ k = omega arith in subst (λ j. height (s j) (t j) ≤ height u (t j)) here le;
      }

  -- none is left
  pub none_kept : {kept : ℕ} → Taken height u m t s kept → kept ≤ 0 → Kept height u m t s 0
  none_kept T none =
      record { most = omega arith; taken = λ k a b. T.lower k (omega arith) b; stays = λ k e. absurd (omega arith) }
