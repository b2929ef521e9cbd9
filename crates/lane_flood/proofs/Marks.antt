-- How many cells have a label: no more than there are cells, fewer where one has none, and one more when that one gets a
-- label. Assumes nothing.
use mathlib.Core.Path.{◌≡◌, refl, ap}
use mathlib.Core.Logic.{◌≢◌, by_cases}
use Prim.Native.Nat.{ℕ, zero, suc, ◌+◌, ◌≤◌, ◌<◌}
use native.Mathlib.Decide.{ℕ_discrete}
use native.Mathlib.Omega.{arith}
use Rattle.lane_flood.specs.Labelling.{marks}

-- no more labels than cells
pub marks_le : (label : ℕ → ℕ) (n : ℕ) → marks label n ≤ n
unfolding marks
marks_le label zero = omega arith
marks_le label (suc n) = omega (arith, marks_le label n)

-- fewer where a cell has none
pub marks_room : (label : ℕ → ℕ) (n p : ℕ) → p < n → label p ≡ 0 → marks label n < n
unfolding marks
marks_room label zero p h e = absurd (omega arith)
marks_room label (suc n) p h e =
    by_cases (ℕ_discrete p n) (λ s. omega (arith, marks_le label n, ap label s))
    (λ o. omega (arith, marks_room label n p (omega arith) e))

-- none where no cell has one
pub marks_none : (label : ℕ → ℕ) (n : ℕ) → ((c : ℕ) → c < n → label c ≡ 0) → marks label n ≡ 0
unfolding marks
marks_none label zero none = refl
marks_none label (suc n) none = omega (arith, none n (omega arith), marks_none label n (λ c h. none c (omega arith)))

module _ (label label' : ℕ → ℕ) (p : ℕ) (others : (c : ℕ) → c ≢ p → label' c ≡ label c) where
  -- as many among the cells before p, whose labels stay
  marks_same : (n : ℕ) → n ≤ p → marks label' n ≡ marks label n
  unfolding marks
  marks_same zero h = refl
  marks_same (suc n) h = omega (arith, others n (omega arith), marks_same n (omega arith))

  -- one more when p gets a label
  pub marks_more : (n : ℕ) → p < n → label p ≡ 0 → 0 < label' p → marks label' n ≡ marks label n + 1
  unfolding marks
  marks_more zero h e l = absurd (omega arith)
  marks_more (suc n) h e l =
      by_cases (ℕ_discrete p n)
      (λ s. omega (arith, ap label s, ap label' s, marks_same n (omega arith)))
      (λ o. omega (arith, others n (λ s. o (omega arith)), marks_more n (omega arith) e l))
