-- The list's rule, proved at all of its entries by one test that the checker computes, one entry after the other. The test
-- goes along the list, whatever its length, so that these lines stay as they are when the list grows. And what is read from
-- the list is a square, with a bound. Assumes nothing.
use mathlib.Core.Path.{◌≡◌, ◌∙◌, subst, sym}
use mathlib.Core.Bool.{Bool, true, ◌&&◌}
use mathlib.Core.List.{List, [], ◌∷◌}
use Prim.Native.Nat.{ℕ, zero, suc, ◌+◌, ◌*◌, ◌<◌}
use native.Mathlib.Nat.{add-zero, zero-add, add-suc, suc-add, le_of_suc-le-suc, not-suc-le-zero, mul-le-mul, le-pred_of_lt}
use native.Mathlib.Omega.{arith}
use mir.Facts.{and_yes}
use lib.Dec.{T, eqb, eqb→eq}
use lib.ListN.{length, get_or}
use Rattle.rules.specs.Limits.{side_limit}
use Rattle.squares.specs.List.{Squares}

-- the test: the entries are the squares of k, of k + 1, and so on
abbrev squares_from : ℕ → List ℕ → Bool
squares_from k [] = true
squares_from k (x ∷ xs) = eqb x (k * k) && squares_from (suc k) xs

-- a list that passes has the rule at each entry
rule_from : (xs : List ℕ) (k : ℕ) → T (squares_from k xs) → (i : ℕ) → i < length xs → get_or xs i 0 ≡ (k + i) * (k + i)
rule_from [] k t i h = absurd (not-suc-le-zero h)
rule_from (x ∷ xs) k t zero h =
    let here = (and_yes (eqb x (k * k)) (squares_from (suc k) xs) t).0 in
    subst (λ (m : ℕ). x ≡ m * m) (sym (add-zero k)) (eqb→eq x (k * k) here)
rule_from (x ∷ xs) k t (suc i) h =
    let rest = (and_yes (eqb x (k * k)) (squares_from (suc k) xs) t).1 in
    subst (λ (m : ℕ). get_or xs i 0 ≡ m * m) (suc-add k i ∙ sym (add-suc k i))
    (rule_from xs (suc k) rest i (le_of_suc-le-suc h))

-- a list of the right length that passes from 0 on is the list of squares
pub tested : (xs : List ℕ) → length xs ≡ side_limit → T (squares_from 0 xs) → Squares xs
tested xs e t =
    record {
      as_long = e;
      entry =
          λ k h.
          subst (λ (m : ℕ). get_or xs k 0 ≡ m * m) (zero-add k) (rule_from xs 0 t k (subst (λ n. k < n) (sym e) h));
    }

-- r is the square of an offset k, with a bound that sums of it need
abbrev pub Square : ℕ → ℕ → Type 0
Square k r = (r ≡ k * k) × (r < side_limit * side_limit)

-- so is what is read from the list of squares
pub squared : {list : List ℕ} {k r : ℕ} → Squares list → k < side_limit → r ≡ get_or list k 0 → Square k r
squared {k = k} S l e =
    let is = e ∙ S.entry k l in
    let small = le-pred_of_lt l in
    (is, omega (arith, is, mul-le-mul small small))
