-- A test that computes whether a list of cells is the best lane of a small board, given the words of the cells and
-- the labels of two floods. It runs over all pairs of cells to see that the labels are those of floods, at the width v
-- and at v + 1, and along the list to see that it goes down the labels of the first, each time to the least cell.
-- Where it passes, the list is the best lane and v its width (`lane_test_sound`), by `best_by_labels`.
--
-- Each condition is written once, as a test together with the proof that the condition holds where the test passes:
-- comparisons of numbers are the bricks, and "both", "if" and "each number below n" put them together. The lemmas
-- below stand open only because the test computes everywhere.
--
-- Assumes nothing.
use mathlib.Core.Path.{◌≡◌, refl}
use mathlib.Core.Bool.{Bool, true, false, ◌&&◌}
use mathlib.Core.List.{List, [], ◌∷◌}
use Prim.Native.Nat.{ℕ, suc, ◌+◌, ◌-◌, ◌*◌, ◌≤◌, ◌<◌}
use mir.Facts.{and_yes, yes_eqb}
use lib.Dec.{T, leb, eqb, leb→le, le→leb, eqb→eq}
use lib.ListN.{get_or}
use Rattle.rules.specs.Board.{column, row, away}
use Rattle.rules.specs.Lane.{Neighbours, width, Best}
use Rattle.rules.proofs.Order.{every, every_means}
use Rattle.rules.proofs.LaneLabels.{Flooded, Next, Descends, best_by_labels}

-- a condition with a test: where the test passes, the condition holds
pub record Test (A : Type 0) : Type 0 where
  pub passes : Bool
  pub sound : T passes → A

-- a test that never passes
abbrev pub never : {A : Type 0} → Test A
never = record { passes = false; sound = λ t. absurd t }

-- a test of a condition tests what follows from it
abbrev pub so : {A B : Type 0} → Test A → (A → B) → Test B
so t f = record { passes = t.passes; sound = λ s. f (t.sound s) }

-- two conditions hold
abbrev pub both : {A B : Type 0} → Test A → Test B → Test (A × B)
both s t = record {
  passes = s.passes && t.passes;
  sound = λ u. let r = and_yes s.passes t.passes u in (s.sound r.0, t.sound r.1);
}

-- where the first test passes, the second does
abbrev implies : Bool → Bool → Bool
implies true b = b
implies false b = true

-- where the test of an implication and the first test pass, the second does
pub implies_sound : (a b : Bool) → T (implies a b) → T a → T b
implies_sound true b t s = t
implies_sound false b t s = absurd s

-- the second condition holds if the first does, on which a test is known to pass
abbrev pub given : {A B : Type 0} (a : Bool) → (A → T a) → Test B → Test (A → B)
given a known t = record {
  passes = implies a t.passes;
  sound = λ s x. t.sound (implies_sound a t.passes s (known x));
}

-- the condition holds of each number below n
abbrev pub below : {P : ℕ → Type 0} (n : ℕ) → ((k : ℕ) → Test (P k)) → Test ((k : ℕ) → k < n → P k)
below n t = record {
  passes = every n (λ k. (t k).passes);
  sound = λ s k l. (t k).sound (every_means n (λ k. (t k).passes) s k l);
}

-- one number is at most another
abbrev pub at_most : (a b : ℕ) → Test (a ≤ b)
at_most a b = record { passes = leb a b; sound = leb→le a b }

-- a condition holds if one number is at most another
abbrev pub if_at_most : {B : Type 0} (a b : ℕ) → Test B → Test (a ≤ b → B)
if_at_most a b t = given (leb a b) (le→leb a b) t

-- two numbers are the same
abbrev pub same : (a b : ℕ) → Test (a ≡ b)
same a b = record { passes = eqb a b; sound = eqb→eq a b }

-- a condition holds if two numbers are the same
abbrev pub if_same : {B : Type 0} (a b : ℕ) → Test B → Test (a ≡ b → B)
if_same a b t = given (eqb a b) (λ e. yes_eqb e) t

-- how many steps two cells are apart
abbrev steps : ℕ → ℕ → ℕ → ℕ
steps w p q = (column w p - column w q) + (column w q - column w p) + ((row w p - row w q) + (row w q - row w p))

-- neighbours are one step apart
pub steps_are : (w p q : ℕ) → Neighbours w p q ≡ (steps w p q ≡ 1)
unfolding away
steps_are w p q = refl

-- two cells are neighbours
abbrev near : (w p q : ℕ) → Test (Neighbours w p q)
near w p q = so (same (steps w p q) 1) (λ e. rw steps_are e)

-- a condition holds if two cells are neighbours
abbrev if_near : {B : Type 0} (w p q : ℕ) → Test B → Test (Neighbours w p q → B)
if_near w p q t = so (if_same (steps w p q) 1 t) (λ f e. f (rw steps_are at e))

module _ (w h : ℕ) (word : ℕ → ℕ) (v to : ℕ) (label : ℕ → ℕ) where
  -- the label of p is not too great beside that of q
  abbrev spreads : (p q : ℕ)
      → Test (Neighbours w p q → v ≤ word p → 0 < label q → (0 < label p) × (label p ≤ label q + 1))
  spreads p q =
      if_near w p q (if_at_most v (word p) (if_at_most 1 (label q)
      (both (at_most 1 (label p)) (at_most (label p) (label q + 1)))))

  -- the labels are those of a flood from the far end
  abbrev flooded : Test (Flooded w h word v to label)
  flooded =
      so (both (if_at_most v (word to) (same (label to) 1)) (below (w * h) (λ p. below (w * h) (spreads p))))
      (λ t. record { start = t.0; spread = λ p q p_in q_in. t.1 p p_in q q_in })

  -- q is not greater than r, if r is one of the cells that can be gone to from p
  abbrev no_greater : (p q r : ℕ) → Test (Neighbours w p r → v ≤ word r → label r + 1 ≡ label p → q ≤ r)
  no_greater p q r = if_near w p r (if_at_most v (word r) (if_same (label r + 1) (label p) (at_most q r)))

  -- q is the cell to go to from p
  abbrev next : (p q : ℕ) → Test (Next w h word v label p q)
  next p q =
      so (both (both (at_most (suc q) (w * h)) (near w p q)) (both (both (at_most v (word q)) (at_most 1 (label q)))
      (both (same (label p) (label q + 1)) (below (w * h) (no_greater p q)))))
      (λ t. record {
        inside = t.0.0;
        near = t.0.1;
        wide = t.1.0.0;
        labelled = t.1.0.1;
        lesser = t.1.1.0;
        least = t.1.1.1;
      })

  -- the walk ends at the far end
  pub descends_end : (p : ℕ) → (p ≡ to) × (label p ≡ 1) → Descends w h word v to label p []
  unfolding Descends
  descends_end p d = d

  -- the walk goes on from p to the next cell
  pub descends_on : (p q : ℕ) (qs : List ℕ) → Next w h word v label p q × Descends w h word v to label q qs
      → Descends w h word v to label p (q ∷ qs)
  unfolding Descends
  descends_on p q qs d = d

  -- the walk from p goes on over the list, down the labels
  abbrev descends : (p : ℕ) (qs : List ℕ) → Test (Descends w h word v to label p qs)
  descends p [] = so (both (same p to) (same (label p) 1)) (descends_end p)
  descends p (q ∷ qs) = so (both (next p q) (descends q qs)) (descends_on p q qs)

-- the list is the best lane, and v its width
abbrev best : (w h : ℕ) (word : ℕ → ℕ) (from to v : ℕ) (cells : List ℕ) (label label' : ℕ → ℕ)
    → Test (Best w h word from to cells × (width word cells ≡ v))
best w h word from to v [] label label' = never
best w h word from to v (p ∷ ps) label label' =
    so (both (both (flooded w h word v to label) (flooded w h word (v + 1) to label'))
    (both (both (both (same p from) (at_most (suc p) (w * h))) (both (at_most v (word p)) (same (label' p) 0)))
    (descends w h word v to label p ps)))
    (λ t. rw (← t.1.0.0.0) (best_by_labels t.0.0 t.0.1 p ps t.1.0.0.1 t.1.0.1.0
    t.1.0.1.1 t.1.1))

-- the same by lists of words and of labels, as a test alone
abbrev pub lane_test : (w h : ℕ) (words : List ℕ) (from to v : ℕ) (cells labels labels' : List ℕ) → Bool
lane_test w h words from to v cells labels labels' =
    (best w h (λ c. get_or words c 0) from to v cells (λ c. get_or labels c 0) (λ c. get_or labels' c 0)).passes

-- where the test passes, the list is the best lane, and v its width
pub lane_test_sound : (w h : ℕ) (words : List ℕ) (from to v : ℕ) (cells labels labels' : List ℕ)
    → T (lane_test w h words from to v cells labels labels')
    → Best w h (λ c. get_or words c 0) from to cells × (width (λ c. get_or words c 0) cells ≡ v)
lane_test_sound w h words from to v cells labels labels' t =
    (best w h (λ c. get_or words c 0) from to v cells (λ c. get_or labels c 0) (λ c. get_or labels' c 0)).sound t
