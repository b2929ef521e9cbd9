-- How labels find the best lane, over any word that a cell has.
--
-- The board is flooded from the far end `to`, over the cells whose word is at least v: the far end gets the label 1,
-- and a cell beside a label k gets a label of at most k + 1; 0 is no label. So along any lane at least as wide as v,
-- read from its end, each cell has a label, and one no greater than the number of cells from it on (`reached`). Hence
-- from a cell with no label no lane is as wide as v (`none_as_wide`).
--
-- Then walk from the near end, each time to the least of the neighbours whose label is one less. The walk is a lane at
-- least as wide as v with as many cells as the first label says, and no lane as wide has fewer. Take another lane as
-- wide with as many cells. Where the two first part, its next cell has a label no greater than the walk's, since as
-- many cells are left to both; and no less, or the cell before would have a lesser label too. So that cell was among
-- those of which the walk took the least, and the other lane does not come before the walk (`first_by_labels`).
--
-- If no lane is wider than v, the walk is the best lane (`best_by_widest`). None is, if a flood at v + 1 leaves the near
-- end with no label (`best_by_labels`).
--
-- Assumes nothing.
use mathlib.Core.Path.{◌≡◌, refl, sym}
use mathlib.Core.Logic.{inl, inr, by_cases}
use mathlib.Core.List.{List, [], ◌∷◌}
use Prim.Native.Nat.{ℕ, ◌+◌, ◌*◌, ◌≤◌, ◌<◌}
use native.Mathlib.Decide.{dec_le}
use native.Mathlib.Omega.{arith}
use lib.ListN.{length}
use Rattle.rules.specs.Order.{Earlier}
use Rattle.rules.specs.Lane.{Neighbours, GoesOn, Lane, width, Best}
use Rattle.rules.proofs.Lane.{All, wide_iff}

-- the labels are those of a flood from the far end over the cells whose word is at least v
pub record Flooded (w h : ℕ) (word : ℕ → ℕ) (v to : ℕ) (label : ℕ → ℕ) : Type 0 where
  pub start : v ≤ word to → label to ≡ 1
  pub spread : (p q : ℕ) → p < w * h → q < w * h → Neighbours w p q → v ≤ word p → 0 < label q
      → (0 < label p) × (label p ≤ label q + 1)

-- q is the cell to go to from p: of the neighbours of the next lesser label the least
pub record Next (w h : ℕ) (word : ℕ → ℕ) (v : ℕ) (label : ℕ → ℕ) (p q : ℕ) : Type 0 where
  pub inside : q < w * h
  pub near : Neighbours w p q
  pub wide : v ≤ word q
  pub labelled : 0 < label q
  pub lesser : label p ≡ label q + 1
  pub least : (r : ℕ) → r < w * h → Neighbours w p r → v ≤ word r → label r + 1 ≡ label p → q ≤ r

-- the walk from p goes on over the cells of the list, down the labels to the far end
unfoldable pub Descends : ℕ → ℕ → (ℕ → ℕ) → ℕ → ℕ → (ℕ → ℕ) → ℕ → List ℕ → Type 0
Descends w h word v to label p [] = (p ≡ to) × (label p ≡ 1)
Descends w h word v to label p (q ∷ qs) = Next w h word v label p q × Descends w h word v to label q qs

-- the walk down the labels is a walk to the far end, as wide as v, with as many cells as the first label says
descent : (w h : ℕ) (word : ℕ → ℕ) (v to : ℕ) (label : ℕ → ℕ) (p : ℕ) (qs : List ℕ)
    → Descends w h word v to label p qs
    → GoesOn w h p qs to × All (λ c. v ≤ word c) qs × (length (p ∷ qs) ≡ label p)
unfolding Descends GoesOn
descent w h word v to label p [] d = (d.0, tt, sym d.1)
descent w h word v to label p (q ∷ qs) d =
    let (on, wide, long) = descent w h word v to label q qs d.1 in
    ((d.0.inside, d.0.near, on), (d.0.wide, wide), omega (arith, d.0.lesser))

module _ {w h : ℕ} {word : ℕ → ℕ} {v to : ℕ} {label : ℕ → ℕ} (f : Flooded w h word v to label) where
  -- along a walk as wide as v to the far end each cell has a label, at most the number of cells from it on
  along : (p : ℕ) (qs : List ℕ) → p < w * h → GoesOn w h p qs to → All (λ c. v ≤ word c) (p ∷ qs)
      → (0 < label p) × (label p ≤ length (p ∷ qs))
  unfolding GoesOn
  along p [] l on all =
      let wide : v ≤ word to = rw on at all.0 in
      let one : label p ≡ 1 = rw on (f.start wide) in
      omega arith
  along p (q ∷ qs) l on all =
      let rest = along q qs on.0 on.2 all.1 in
      omega (arith, f.spread p q l on.0 on.1 all.0 rest.0)

  -- the first cell of a lane as wide as v has a label, and the lane has at least so many cells
  pub reached : (from : ℕ) (cells : List ℕ) → Lane w h from to cells → v ≤ width word cells
      → (0 < label from) × (label from ≤ length cells)
  unfolding Lane
  reached from [] l wide = absurd l
  reached from (p ∷ ps) (e, l, on) wide = rw (← e) (along p ps l on ((wide_iff word v p ps).0 wide))

  -- from a cell with no label no lane is as wide as v
  pub none_as_wide : (from : ℕ) → label from ≡ 0 → (cells : List ℕ) → Lane w h from to cells → v ≤ width word cells → ⊥
  none_as_wide from e cells l wide = omega (arith, reached from cells l wide)

  -- no walk as wide as v and as short as the one down the labels comes before it
  none_before : (p : ℕ) (rs qs : List ℕ) → p < w * h → GoesOn w h p rs to → All (λ c. v ≤ word c) (p ∷ rs)
      → Descends w h word v to label p qs → length rs ≡ length qs → Earlier rs qs → ⊥
  unfolding GoesOn Descends
  none_before p [] qs l on all d e b = b
  none_before p (r ∷ rs) [] l on all d e b = b
  none_before p (r ∷ rs) (q ∷ qs) l on all d e (inl b) =
      let r_label = along r rs on.0 on.2 all.1 in
      let p_label = f.spread p r l on.0 on.1 all.0 r_label.0 in
      let q_label = (descent w h word v to label q qs d.1).2 in
      let same : label r + 1 ≡ label p = omega (arith, d.0.lesser) in
      omega (arith, d.0.least r on.0 on.1 all.1.0 same)
  none_before p (r ∷ rs) (q ∷ qs) l on all d e (inr (same, b)) =
      none_before q rs qs d.0.inside (rw same at on.2) (d.0.wide, all.1.1) d.1 (omega arith) b

  -- the walk down the labels is a lane as wide as v, with as many cells as the first label says, and no lane as wide
  -- and as short comes before it
  pub first_by_labels : (from : ℕ) (rest : List ℕ) → from < w * h → v ≤ word from
      → Descends w h word v to label from rest
      → Lane w h from to (from ∷ rest) × (v ≤ width word (from ∷ rest)) × (length (from ∷ rest) ≡ label from)
      × ((other : List ℕ) → Lane w h from to other → v ≤ width word other → length other ≡ length (from ∷ rest)
      → Earlier other (from ∷ rest) → ⊥)
  unfolding Lane
  first_by_labels from rest l wide d =
      let (on, all, long) = descent w h word v to label from rest d in
      ((refl, l, on), (wide_iff word v from rest).1 (wide, all), long, first)
    where
      first : (other : List ℕ) → Lane w h from to other → v ≤ width word other → length other ≡ length (from ∷ rest)
          → Earlier other (from ∷ rest) → ⊥
      first [] o_lane o-wide e b = b
      first (p ∷ ps) (p_is, p_in, on) o-wide e (inl b) = omega arith
      first (p ∷ ps) (p_is, p_in, on) o-wide e (inr (same, b)) =
          none_before from ps rest l (rw p_is at on) (wide, ((wide_iff word v p ps).0 o-wide).1) d (omega arith) b

-- the walk down the labels of a flood at v is the best lane, and its width is v, if no lane is wider
pub best_by_widest : {w h : ℕ} {word : ℕ → ℕ} {v to : ℕ} {label : ℕ → ℕ} → Flooded w h word v to label
    → (from : ℕ) (rest : List ℕ) → from < w * h → v ≤ word from
    → ((other : List ℕ) → Lane w h from to other → width word other ≤ v) → Descends w h word v to label from rest
    → Best w h word from to (from ∷ rest) × (width word (from ∷ rest) ≡ v)
best_by_widest {w} {h} {word} {v} {to} f from rest l wide at_most d =
    let (lane, as_wide, long, first) = first_by_labels f from rest l wide d in
    let is : width word (from ∷ rest) ≡ v = omega (arith, at_most (from ∷ rest) lane) in (
      record {
        lane = lane;
        widest = λ o o_lane. omega (arith, at_most o o_lane);
        fewest = λ o o_lane same. omega (arith, reached f from o o_lane (omega arith));
        first = λ o o_lane same. first o o_lane (omega arith);
      },
      is,
    )

-- so it is if a flood at v + 1 leaves its first cell with no label
pub best_by_labels : {w h : ℕ} {word : ℕ → ℕ} {v to : ℕ} {label label' : ℕ → ℕ} → Flooded w h word v to label
    → Flooded w h word (v + 1) to label' → (from : ℕ) (rest : List ℕ) → from < w * h → v ≤ word from
    → label' from ≡ 0 → Descends w h word v to label from rest
    → Best w h word from to (from ∷ rest) × (width word (from ∷ rest) ≡ v)
best_by_labels {w} {h} {word} {v} {to} f f' from rest l wide e d =
    best_by_widest f from rest l wide at_most d
  where
    at_most : (o : List ℕ) → Lane w h from to o → width word o ≤ v
    at_most o o_lane =
        by_cases (dec_le (v + 1) (width word o)) (λ m. absurd (none_as_wide f' from e o o_lane m)) (λ m. omega arith)
