-- The map word and the tie rule: each names one thing, and names it wherever there is a feature. The map word is one
-- number: each of two least words is the word of a feature, so neither is above the other. The tie rule is an order of
-- the cells by their keys, which are word, column, dy and row; the rule for costs is the same with 0 for every dy. The
-- cell that the rule takes is the feature that no feature comes before. The keys of two cells differ, for they hold
-- column and row, so one of two features comes before the other, and the rule takes at most one cell. It takes one
-- wherever there is a feature: go through the cells in the order of their numbers with a feature in hand, and change it
-- for each feature that comes before it; none comes before the one in hand at the end. That cell attains the least word,
-- so there is a map word too. Assumes nothing.
use mathlib.Core.Path.{◌≡◌, refl}
use mathlib.Core.Logic.Dec
use mathlib.Core.Logic.{◌↔◌, inl, inr, ⊎_elim, by_cases}
use mathlib.Core.List.{List}
use Prim.Native.Nat.{ℕ, zero, suc, ◌*◌, ◌≤◌, ◌<◌}
use native.Mathlib.Decide.{dec_lt, ℕ_discrete}
use native.Mathlib.Omega.{arith}
use borrow.Author.Count.{below_more}
use lib.ListN.{length, get_or}
use Rattle.rules.specs.Limits.{mark}
use Rattle.rules.specs.Board.{cell, column, row, away, Bored, cost_at, Unmarked}
use Rattle.rules.proofs.Board.{cell_in, column_of, row_of, column_below, row_below}
use Rattle.rules.specs.Order.{Earlier}
use Rattle.rules.specs.Tie.{
  Least,
  Site,
  CostSite,
  First,
  site_keys,
  bore_word,
  cost_word,
  MapSite,
  CostMapSite,
}
use Rattle.rules.proofs.Order.{earlier_irrefl, earlier_trans, earlier_total, earlier?}

-- keys by which cells can be ordered: those of all cells have one length, and no two cells have the same
pub record Keys (keys : ℕ → ℕ → List ℕ) : Type 0 where
  pub same_length : (i j i' j' : ℕ) → length (keys i j) ≡ length (keys i' j')
  pub same_column : (i j i' j' : ℕ) → keys i j ≡ keys i' j' → i ≡ i'
  pub same_row : (i j i' j' : ℕ) → keys i j ≡ keys i' j' → j ≡ j'

-- the keys of the tie rule are such keys
pub keys_tell : (word : ℕ → ℕ → ℕ) (dy : ℕ → ℕ) → Keys (site_keys word dy)
keys_tell word dy = record {
  same_length = λ i j i' j'. refl;
  same_column = λ i j i' j' e. cc;
  same_row = λ i j i' j' e. cc;
}

-- what is not below m is at least m
no_less : {m n : ℕ} → (n < m → ⊥) → m ≤ n
no_less {m} {n} f = omega arith

module _ {w h : ℕ} {Feature : ℕ → ℕ → Type 0} where
  -- there is one least word
  pub least_unique : {word : ℕ → ℕ → ℕ} {d d' : ℕ} → Least w h Feature word d → Least w h Feature word d' → d ≡ d'
  least_unique a b =
      omega (
        arith,
        a.least b.i b.j b.column_in b.row_in b.feature,
        b.least a.i a.j a.column_in a.row_in a.feature,
      )

  -- at most one feature is first
  pub first_unique : {keys : ℕ → ℕ → List ℕ} {i j i' j' : ℕ}
      → Keys keys → First w h Feature keys i j → First w h Feature keys i' j' → (i ≡ i') × (j ≡ j')
  first_unique {keys} {i} {j} {i'} {j'} k a b =
      ⊎_elim (λ e. (k.same_column i j i' j' e, k.same_row i j i' j' e))
      (⊎_elim (λ e. absurd (b.none_before i j a.column_in a.row_in a.feature e))
      (λ e. absurd (a.none_before i' j' b.column_in b.row_in b.feature e)))
      (earlier_total (keys i j) (keys i' j') (k.same_length i j i' j'))

  -- the cell that the tie rule takes is the first feature
  pub site_is_first : {word : ℕ → ℕ → ℕ} {dy : ℕ → ℕ} {i j : ℕ}
      → Site w h Feature word dy i j → First w h Feature (site_keys word dy) i j
  site_is_first {word} {dy} {i} {j} s = record {
    column_in = s.column_in;
    row_in = s.row_in;
    feature = s.feature;
    none_before = go;
  }
    where
      go : (i' j' : ℕ) → i' < w → j' < h → Feature i' j'
          → Earlier (site_keys word dy i' j') (site_keys word dy i j) → ⊥
      go i' j' l m f (inl t) = omega (arith, s.least i' j' l m f)
      go i' j' l m f (inr (e, inl t)) = omega (arith, s.least_column i' j' l m f e)
      go i' j' l m f (inr (e, inr (q, inl t))) = omega (arith, s.least_dy j' m (rw q at f) (rw q at e))
      go i' j' l m f (inr (e, inr (q, inr (p, inl t)))) = omega (arith, s.least_row j' m (rw q at f) (rw q at e) p)
      go i' j' l m f (inr (e, inr (q, inr (p, inr t)))) = t.1

  -- the first feature is the cell that the tie rule takes
  pub first_is_site : {word : ℕ → ℕ → ℕ} {dy : ℕ → ℕ} {i j : ℕ}
      → First w h Feature (site_keys word dy) i j → Site w h Feature word dy i j
  first_is_site {word} {dy} {i} {j} s = record {
    column_in = s.column_in;
    row_in = s.row_in;
    feature = s.feature;
    least = λ i' j' l m f. no_less (λ t. s.none_before i' j' l m f (inl t));
    least_column = λ i' j' l m f e. no_less (λ t. s.none_before i' j' l m f (inr (e, inl t)));
    least_dy = λ j' m f e. no_less (λ t. s.none_before i j' s.column_in m f (inr (e, inr (refl, inl t))));
    least_row = λ j' m f e q.
        no_less (λ t. s.none_before i j' s.column_in m f (inr (e, inr (refl, inr (q, inl t)))));
  }

  -- the tie rule takes at most one cell
  pub site_unique : {word : ℕ → ℕ → ℕ} {dy : ℕ → ℕ} {i j i' j' : ℕ}
      → Site w h Feature word dy i j → Site w h Feature word dy i' j' → (i ≡ i') × (j ≡ j')
  site_unique {word} {dy} s t = first_unique (keys_tell word dy) (site_is_first s) (site_is_first t)

  -- the rule for costs is the tie rule with no dy to go by
  pub cost_as_site : {word : ℕ → ℕ → ℕ} {i j : ℕ}
      → CostSite w h Feature word i j ↔ Site w h Feature word (λ _. 0) i j
  cost_as_site = (
    λ s. record {
      column_in = s.column_in;
      row_in = s.row_in;
      feature = s.feature;
      least = s.least;
      least_column = s.least_column;
      least_dy = λ j' m f e. omega arith;
      least_row = λ j' m f e q. s.least_row j' m f e;
    },
    λ s. record {
      column_in = s.column_in;
      row_in = s.row_in;
      feature = s.feature;
      least = s.least;
      least_column = s.least_column;
      least_row = λ j' m f e. s.least_row j' m f e refl;
    },
  )

  -- the cell that the tie rule takes attains the least word
  pub least_of_site : {word : ℕ → ℕ → ℕ} {dy : ℕ → ℕ} {i j : ℕ}
      → Site w h Feature word dy i j → Least w h Feature word (word i j)
  least_of_site {i = i} {j} s = record {
    i = i;
    j = j;
    column_in = s.column_in;
    row_in = s.row_in;
    feature = s.feature;
    attained = refl;
    least = s.least;
  }

-- going through the numbers below n with one that has P in hand: one that has P, and none below n that has P comes
-- before it
scan : {P : ℕ → Type 0} → ((k : ℕ) → Dec (P k)) → (keys : ℕ → List ℕ) (k₀ : ℕ) → P k₀ → (n : ℕ)
    → (k : ℕ) × P k × ((k' : ℕ) → k' < n → P k' → Earlier (keys k') (keys k) → ⊥)
scan P? keys k₀ p₀ zero = (k₀, p₀, λ k' l. absurd (omega arith))
scan {P} P? keys k₀ p₀ (suc n) =
    let (k, p, none) = scan P? keys k₀ p₀ n in
    by_cases (Dec.and (P? n) (earlier? (keys n) (keys k)))
    (λ t. (
      n,
      t.0,
      λ k' l. below_more (λ k'. P k' → Earlier (keys k') (keys n) → ⊥) n
          (λ k' l q e. none k' l q (earlier_trans (keys k') (keys n) (keys k) e t.1)) (λ q. earlier_irrefl (keys n)) k'
          (omega arith),
    ))
    (λ t. (
      k,
      p,
      λ k' l. below_more (λ k'. P k' → Earlier (keys k') (keys k) → ⊥) n none (λ q e. t (q, e)) k' (omega arith),
    ))

module _ {w h : ℕ} {Feature : ℕ → ℕ → Type 0} (feature? : (i j : ℕ) → Dec (Feature i j))
    (i₀ j₀ : ℕ) (l : i₀ < w) (m : j₀ < h) (f : Feature i₀ j₀) where
  -- where there is a feature, one is first
  pub first_exists : (keys : ℕ → ℕ → List ℕ) → (i : ℕ) × (j : ℕ) × First w h Feature keys i j
  first_exists keys =
      let (k, p, none) = scan known? (λ k. keys (column w k) (row w k)) (cell w i₀ j₀) (known i₀ j₀ l m f) (w * h) in
      let wide : 0 < w = omega arith in (
        column w k,
        row w k,
        record {
          column_in = column_below k wide;
          row_in = row_below w p.0;
          feature = p.1;
          none_before = λ i j l m f e.
              none (cell w i j) (cell_in l m) (known i j l m f) (rw (column_of j l, row_of j l) e);
        },
      )
    where
      Known : ℕ → Type 0
      Known k = (k < w * h) × Feature (column w k) (row w k)

      known : (i j : ℕ) → i < w → j < h → Feature i j → Known (cell w i j)
      known i j l m f = (cell_in l m, rw (column_of, row_of) f)

      known? : (k : ℕ) → Dec (Known k)
      known? k = Dec.and (dec_lt k (w * h)) (feature? (column w k) (row w k))

  -- where there is a feature, the tie rule takes a cell
  pub site_exists : (word : ℕ → ℕ → ℕ) (dy : ℕ → ℕ) → (i : ℕ) × (j : ℕ) × Site w h Feature word dy i j
  site_exists word dy = let (i, j, s) = first_exists (site_keys word dy) in (i, j, first_is_site s)

  -- where there is a feature, there is a least word
  pub least_exists : (word : ℕ → ℕ → ℕ) → (d : ℕ) × Least w h Feature word d
  least_exists word = let (i, j, s) = site_exists word (λ _. 0) in (word i j, least_of_site s)

-- of each cell it is decided whether it is bored
pub bored? : (w : ℕ) (picture : List ℕ) (i j : ℕ) → Dec (Bored w picture i j)
bored? w picture i j = ℕ_discrete (get_or picture (cell w i j) 0) 1

-- of each cell it is decided whether it is unmarked
pub unmarked? : (w : ℕ) (costs : List ℕ) (i j : ℕ) → Dec (Unmarked w costs i j)
unmarked? w costs i j = Dec.not (ℕ_discrete (cost_at w costs i j) mark)

-- a picture has one site word at each cell
pub map_site_unique : {kind d1 d2 w h : ℕ} {picture : List ℕ} {x y s s' : ℕ}
    → MapSite kind d1 d2 w h picture x y s → MapSite kind d1 d2 w h picture x y s' → s ≡ s'
map_site_unique a b = let (p, q) = site_unique a.rule b.rule in cc

-- a cost picture has one site word at each cell
pub cost_map_site_unique : {kind w h : ℕ} {costs : List ℕ} {x y s s' : ℕ}
    → CostMapSite kind w h costs x y s → CostMapSite kind w h costs x y s' → s ≡ s'
cost_map_site_unique a b = let (p, q) = site_unique (cost_as_site.0 a.rule) (cost_as_site.0 b.rule) in cc

-- a picture with a bored cell has a site word at each cell
pub map_site_exists : (kind d1 d2 w h : ℕ) (picture : List ℕ) (x y i₀ j₀ : ℕ)
    → i₀ < w → j₀ < h → Bored w picture i₀ j₀ → (s : ℕ) × MapSite kind d1 d2 w h picture x y s
map_site_exists kind d1 d2 w h picture x y i₀ j₀ l m f =
    let (i, j, s) = site_exists (bored? w picture) i₀ j₀ l m f (bore_word kind d1 d2 x y) (away y) in
    (cell w i j, record { i = i; j = j; site_is = refl; rule = s })

-- a cost picture with an unmarked cell has a site word at each cell
pub cost_map_site_exists : (kind w h : ℕ) (costs : List ℕ) (x y i₀ j₀ : ℕ)
    → i₀ < w → j₀ < h → Unmarked w costs i₀ j₀ → (s : ℕ) × CostMapSite kind w h costs x y s
cost_map_site_exists kind w h costs x y i₀ j₀ l m f =
    let (i, j, s) = site_exists (unmarked? w costs) i₀ j₀ l m f (cost_word kind w costs x y) (λ _. 0) in
    (cell w i j, record { i = i; j = j; site_is = refl; rule = cost_as_site.1 s })
