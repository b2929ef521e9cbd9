-- Laws of the order in which lists of numbers are compared number by number. No list comes before itself, since it
-- differs from itself at no place. Where a first list comes before a second, and that before a third, the first comes
-- before the third: the earlier of the two places at which they differ decides. Two lists of one length either agree at
-- each place, and are one, or the first place where they differ says which comes before the other. The test reads the
-- two lists from the front, as the definition does, so it passes just where the first comes before the second. At the
-- end stands the test of all numbers below a bound, one after another. Assumes nothing.
use mathlib.Core.Path.{◌≡◌, refl}
use mathlib.Core.Logic.Dec
use mathlib.Core.Logic.{◌⊎◌, inl, inr, by_cases}
use mathlib.Core.Bool.{Bool, true, false, ◌&&◌, ◌||◌}
use mathlib.Core.List.{List, [], ◌∷◌}
use Prim.Native.Nat.{ℕ, zero, suc, ◌<◌}
use native.Mathlib.Decide.{dec_lt}
use native.Mathlib.Omega.{arith}
use lib.ListN.{length}
use lib.Dec.{T, ltb, eqb, eqb→eq}
use borrow.Author.Count.{below_more}
use borrow.Author.Tests.{lt-ltb, le-ltb, eq-eqb}
use mir.Facts.{and_yes}
use Rattle.rules.specs.Order.{Earlier}

-- no list comes before itself
pub earlier_irrefl : (xs : List ℕ) → Earlier xs xs → ⊥
earlier_irrefl [] e = e
earlier_irrefl (x ∷ xs) (inl l) = omega arith
earlier_irrefl (x ∷ xs) (inr t) = earlier_irrefl xs t.1

-- a list that comes before a second, which comes before a third, comes before the third
pub earlier_trans : (xs ys zs : List ℕ) → Earlier xs ys → Earlier ys zs → Earlier xs zs
earlier_trans [] ys zs e f = absurd e
earlier_trans (x ∷ xs) [] zs e f = absurd e
earlier_trans (x ∷ xs) (y ∷ ys) [] e f = absurd f
earlier_trans (x ∷ xs) (y ∷ ys) (z ∷ zs) (inl l) (inl m) = inl (omega arith)
earlier_trans (x ∷ xs) (y ∷ ys) (z ∷ zs) (inl l) (inr m) = inl (omega arith)
earlier_trans (x ∷ xs) (y ∷ ys) (z ∷ zs) (inr l) (inl m) = inl (omega arith)
earlier_trans (x ∷ xs) (y ∷ ys) (z ∷ zs) (inr l) (inr m) = inr (omega arith, earlier_trans xs ys zs l.1 m.1)

-- of two lists of one length that differ, one comes before the other
pub earlier_total : (xs ys : List ℕ) → length xs ≡ length ys → (xs ≡ ys) ⊎ (Earlier xs ys ⊎ Earlier ys xs)
earlier_total [] [] e = inl refl
earlier_total [] (y ∷ ys) e = absurd (omega arith)
earlier_total (x ∷ xs) [] e = absurd (omega arith)
earlier_total (x ∷ xs) (y ∷ ys) e =
    by_cases (dec_lt x y) (λ l. inr (inl (inl l))) λ a. by_cases (dec_lt y x) (λ l. inr (inr (inl l))) λ b.
    let q : x ≡ y = omega arith in go q (earlier_total xs ys (omega arith))
  where
    go : x ≡ y → (xs ≡ ys) ⊎ (Earlier xs ys ⊎ Earlier ys xs)
        → (x ∷ xs ≡ y ∷ ys) ⊎ (Earlier (x ∷ xs) (y ∷ ys) ⊎ Earlier (y ∷ ys) (x ∷ xs))
    go q (inl s) = inl (cc)
    go q (inr (inl s)) = inr (inl (inr (q, s)))
    go q (inr (inr s)) = inr (inr (inr (omega arith, s)))

-- the test: a lesser number, or the same number and then the test of the rest
abbrev pub comes_before : List ℕ → List ℕ → Bool
comes_before [] ys = false
comes_before (x ∷ xs) [] = false
comes_before (x ∷ xs) (y ∷ ys) = ltb x y || (eqb x y && comes_before xs ys)

-- the test passes where the first list comes before the second
pub comes_before_means : (xs ys : List ℕ) → Earlier xs ys → T (comes_before xs ys)
comes_before_means [] ys e = e
comes_before_means (x ∷ xs) [] e = e
comes_before_means (x ∷ xs) (y ∷ ys) (inl l) = rw (lt-ltb x y l) tt
comes_before_means (x ∷ xs) (y ∷ ys) (inr t) =
    let l : ltb x y ≡ false = le-ltb x y (omega arith) in
    rw (l, eq-eqb x y t.0) (comes_before_means xs ys t.1)

-- the test passes nowhere else
pub means_comes_before : (xs ys : List ℕ) → T (comes_before xs ys) → Earlier xs ys
means_comes_before [] ys t = t
means_comes_before (x ∷ xs) [] t = t
means_comes_before (x ∷ xs) (y ∷ ys) t =
    by_cases (dec_lt x y) inl λ n.
    let (e, r) = and_yes (eqb x y) (comes_before xs ys) (rw (le-ltb x y (omega arith)) at t) in
    inr (eqb→eq x y e, means_comes_before xs ys r)

-- of each test it is decided whether it passes
passes? : (b : Bool) → Dec (T b)
passes? true = yes tt
passes? false = no (λ t. t)

-- so of any two lists it is decided whether the first comes before the second
pub earlier? : (xs ys : List ℕ) → Dec (Earlier xs ys)
earlier? xs ys = Dec.of_iff (means_comes_before xs ys, comes_before_means xs ys) (passes? (comes_before xs ys))

-- the test of all numbers below n
abbrev pub every : ℕ → (ℕ → Bool) → Bool
every zero p = true
every (suc n) p = p n && every n p

-- where it passes, each number below n passes
pub every_means : (n : ℕ) (p : ℕ → Bool) → T (every n p) → (k : ℕ) → k < n → T (p k)
every_means zero p t k l = absurd (omega arith)
every_means (suc n) p t k l =
    let (last, below) = and_yes (p n) (every n p) t in
    below_more (λ k. T (p k)) n (every_means n p below) last k (omega arith)
