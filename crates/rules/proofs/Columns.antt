-- From columns to rows. However the rows of a column are ranked, its features have one nearest row, the upper one of
-- those with the least rank: going down the column, a feature takes the place only with a lesser rank. So a column has
-- one word. A row line does the same across the board: the column that it names is the nearest of those that are not
-- marked, ranked by what they combine to, so the same laws give a row line one word and one site.
--
-- The step asks that in a column a lesser or equal rank has never a greater word nor a greater dy, and that features
-- with one word and one dy have one rank. What a column combines to is then at most the word of each of its features,
-- so the least of that over the columns is the least word of all features. A column with a feature that attains it
-- combines to it too, so the column that the row line names is the least of them. The row that this column's word
-- names has the least dy in it, and a feature with the same word and dy has the same rank, so it lies no higher.
-- A picture ranks by dy itself. Costs rank by lift plus cost, with no dy: there equal words are equal ranks, because
-- what is added to a column's value is added to the whole. Assumes nothing.
use mathlib.Core.Path.{◌≡◌, refl, sym, ◌∙◌, ap}
use mathlib.Core.Logic.Dec
use mathlib.Core.Logic.{◌≢◌, ◌⊎◌, inl, inr, by_cases}
use mathlib.Core.List.{List}
use Prim.Native.Nat.{ℕ, zero, suc, ◌≤◌, ◌<◌}
use native.Mathlib.Nat.{le_antisymm, zero-add}
use native.Mathlib.Decide.{dec_le, ℕ_discrete}
use native.Mathlib.Omega.{arith}
use borrow.Author.Count.{below_more}
use Rattle.rules.specs.Limits.{mark, cost_kind_limit}
use Rattle.rules.specs.Board.{cell, away, Bored, Unmarked}
use Rattle.rules.specs.Measures.{Measure, distance, measure, HasParts, Additive}
use Rattle.rules.proofs.Measures.{lawful, cost_parts, additive}
use Rattle.rules.proofs.TieRule.{cost_as_site}
use Rattle.rules.specs.Columns.{Nearest, ColumnWord, RowWord, cost_rank}
use Rattle.rules.specs.Tie.{Least, Site, bore_word, cost_word, MapWord, MapSite, CostMapWord, CostMapSite}

-- a column has one nearest row
pub nearest_unique : {h : ℕ} {Feature : ℕ → Type 0} {rank : ℕ → ℕ} {j j' : ℕ} → Nearest h Feature rank j →
    Nearest h Feature rank j' → j ≡ j'
nearest_unique n n' =
    let a = n.nearest _ n'.row_in n'.feature in
    let b = n'.nearest _ n.row_in n.feature in
    le_antisymm (n.upper _ n'.row_in n'.feature (le_antisymm b a))
    (n'.upper _ n.row_in n.feature (le_antisymm a b))

-- what going down a column comes to: its nearest row, or that it has no feature
abbrev pub Settled : ℕ → (ℕ → Type 0) → (ℕ → ℕ) → Type 0
Settled h Feature rank = ((j : ℕ) × Nearest h Feature rank j) ⊎ ((j : ℕ) → j < h → Feature j → ⊥)

module _ {Feature : ℕ → Type 0} (rank : ℕ → ℕ) where
  -- the nearest row stays with one row more, unless a feature there has a lesser rank
  stays : {h j : ℕ} → Nearest h Feature rank j → (Feature h → rank j ≤ rank h) → Nearest (suc h) Feature rank j
  stays {h} {j} n last =
      record {
        row_in = omega arith;
        feature = n.feature;
        nearest = λ j' l. below_more (λ j'. Feature j' → rank j ≤ rank j') h n.nearest last j' (omega arith);
        upper = λ j' l. below_more (λ j'. Feature j' → rank j' ≡ rank j → j ≤ j') h n.upper (λ f e. omega arith) j'
            (omega arith);
      }

  -- a feature with a lesser rank than every feature above it is the nearest, down to its own row
  takes : {h : ℕ} → Feature h → ((j : ℕ) → j < h → Feature j → rank h < rank j) → Nearest (suc h) Feature rank h
  takes {h} f above =
      record {
        row_in = omega arith;
        feature = f;
        nearest =
            λ j l. below_more (λ j. Feature j → rank h ≤ rank j) h (λ j l g. omega (arith, above j l g)) (λ g. omega arith) j
            (omega arith);
        upper =
            λ j l. below_more (λ j. Feature j → rank j ≡ rank h → h ≤ j) h
            (λ j l g e. absurd (omega (arith, above j l g))) (λ g e. omega arith) j (omega arith);
      }

  -- a column whose features are known is settled
  pub settled : ((j : ℕ) → Dec (Feature j)) → (h : ℕ) → Settled h Feature rank
  settled known zero = inr (λ j l f. omega arith)
  settled known (suc h) = one_more (settled known h) (known h)
    where
      one_more : Settled h Feature rank → Dec (Feature h) → Settled (suc h) Feature rank
      one_more (inl (j, n)) (no a) = inl (j, stays n (λ f. absurd (a f)))
      one_more (inl (j, n)) (yes f) =
          by_cases (dec_le (rank j) (rank h))
          (λ (l : rank j ≤ rank h). inl (j, stays n (λ g. l)))
          (λ (m : ¬ (rank j ≤ rank h)). inl (h, takes f (λ j' l g. omega (arith, n.nearest j' l g))))
      one_more (inr none) (no a) = inr (λ j l. below_more (λ j. Feature j → ⊥) h none a j (omega arith))
      one_more (inr none) (yes f) = inl (h, takes f (λ j l g. absurd (none j l g)))

-- a column has one word
pub column_word_unique : {h : ℕ} {Feature : ℕ → Type 0} {rank : ℕ → ℕ} {a b : ℕ} → ColumnWord h Feature rank a →
    ColumnWord h Feature rank b → a ≡ b
column_word_unique {a = a} {b = b} c c' = go (ℕ_discrete a mark) (ℕ_discrete b mark)
  where
    go : Dec (a ≡ mark) → Dec (b ≡ mark) → a ≡ b
    go (yes p) (yes q) = cc
    go (yes p) (no q) = absurd (c.empty p b (c'.named q).row_in (c'.named q).feature)
    go (no p) (yes q) = absurd (c'.empty q a (c.named p).row_in (c.named p).feature)
    go (no p) (no q) = nearest_unique (c.named p) (c'.named q)

-- a column whose features are known has a word, if the mark is no row of it
pub column_word_exists : {h : ℕ} {Feature : ℕ → Type 0} (rank : ℕ → ℕ) → ((j : ℕ) → Dec (Feature j)) → h ≤ mark →
    (word : ℕ) × ColumnWord h Feature rank word
column_word_exists {h} {Feature} rank known top = go (settled rank known h)
  where
    go : Settled h Feature rank → (word : ℕ) × ColumnWord h Feature rank word
    go (inl (j, n)) = (j, record { named = λ _. n; empty = λ e. absurd (omega arith) })
    go (inr none) = (mark, record { named = λ a. absurd (a refl); empty = λ _. none })

module _ {w : ℕ} {combine : ℕ → ℕ → ℕ} {words value : ℕ → ℕ} {x : ℕ} where
  -- the column that a row line names is the nearest of its row, ranked by what the columns combine to
  row_nearest : {d site : ℕ} (r : RowWord w combine words value x d site) →
      Nearest w (λ i. words i ≢ mark) (λ i. combine (away x i) (value i)) r.i
  row_nearest r =
      record {
        row_in = r.column_in;
        feature = r.unmarked;
        nearest = λ i l n. omega (arith, r.least i l n);
        upper = λ i l n e. r.least_column i l n (cc);
      }

  -- a row line has one word and one site
  pub row_word_unique : {d site d' site' : ℕ} → RowWord w combine words value x d site →
      RowWord w combine words value x d' site' → (d ≡ d') × (site ≡ site')
  row_word_unique r r' = let e : r.i ≡ r'.i = nearest_unique (row_nearest r) (row_nearest r') in (cc, cc)

-- a row line with a column that is not marked has a word and a site
pub row_word_exists : {w : ℕ} (combine : ℕ → ℕ → ℕ) (words value : ℕ → ℕ) (x i : ℕ) → i < w → words i ≢ mark →
    (d : ℕ) × (site : ℕ) × RowWord w combine words value x d site
row_word_exists {w} combine words value x i l a =
    go (settled rank (λ i. Dec.not (ℕ_discrete (words i) mark)) w)
  where
    rank : ℕ → ℕ
    rank i = combine (away x i) (value i)

    go : Settled w (λ i. words i ≢ mark) rank →
        (d : ℕ) × (site : ℕ) × RowWord w combine words value x d site
    go (inl (i, n)) = (
      rank i,
      cell w i (words i),
      record {
        i = i;
        column_in = n.row_in;
        unmarked = n.feature;
        word_is = refl;
        site_is = refl;
        least = n.nearest;
        least_column = n.upper;
      },
    )
    go (inr none) = absurd (none i l a)

-- what a row line makes depends on the words of its columns, and on what those that are not marked combine to
pub row_word_by : {w : ℕ} {combine combine' : ℕ → ℕ → ℕ} {words words' value value' : ℕ → ℕ} {x d site : ℕ} →
    ((i : ℕ) → i < w → words i ≡ words' i) →
    ((i : ℕ) → i < w → words i ≢ mark → combine (away x i) (value i) ≡ combine' (away x i) (value' i)) →
    RowWord w combine words value x d site → RowWord w combine' words' value' x d site
row_word_by {w} {words = words} {words' = words'} same at r =
    let named : (i : ℕ) → i < w → words' i ≢ mark → words i ≢ mark = λ i l n e. n (sym (same i l) ∙ e) in
    record {
      i = r.i;
      column_in = r.column_in;
      unmarked = λ e. r.unmarked (same r.i r.column_in ∙ e);
      word_is = r.word_is ∙ at r.i r.column_in r.unmarked;
      site_is = r.site_is ∙ ap (cell w r.i) (same r.i r.column_in);
      least = λ i l n. omega (arith, at i l (named i l n), r.least i l (named i l n));
      least_column = λ i l n e. r.least_column i l (named i l n) (at i l (named i l n) ∙ e);
    }

-- so by one measure it depends on the words, and on the values of the columns that are not marked
pub row_word_same : {w : ℕ} {combine : ℕ → ℕ → ℕ} {words words' value value' : ℕ → ℕ} {x d site : ℕ} →
    ((i : ℕ) → i < w → words i ≡ words' i) → ((i : ℕ) → i < w → words i ≢ mark → value i ≡ value' i) →
    RowWord w combine words value x d site → RowWord w combine words' value' x d site
row_word_same {combine = combine} {x = x} same held r =
    row_word_by same (λ i l n. ap (combine (away x i)) (held i l n)) r

-- The step from columns to rows, over the features, their words as seen from one cell of the row (in column x) and
-- their ranks in their columns.
module _ (w h : ℕ) (Feature : ℕ → ℕ → Type 0) (word rank : ℕ → ℕ → ℕ) (dy : ℕ → ℕ) (combine : ℕ → ℕ → ℕ)
    (words value : ℕ → ℕ) (x : ℕ) (columns : (i : ℕ) → i < w → ColumnWord h (Feature i) (rank i) (words i))
    (lifted : (i : ℕ) → i < w → words i ≢ mark → word i (words i) ≡ combine (away x i) (value i))
    (word_keeps : (i j j' : ℕ) → rank i j ≤ rank i j' → word i j ≤ word i j')
    (dy_keeps : (i j j' : ℕ) → rank i j ≤ rank i j' → dy j ≤ dy j')
    (rank_same : (i j j' : ℕ) → word i j ≡ word i j' → dy j ≡ dy j' → rank i j ≡ rank i j') where
  -- a column with a feature is not marked
  not_marked : {i j : ℕ} → i < w → j < h → Feature i j → words i ≢ mark
  not_marked {i} {j} l k f e = (columns i l).empty e j k f

  -- what a column combines to is at most the word of each of its features
  column_least : {i j : ℕ} → i < w → j < h → Feature i j → combine (away x i) (value i) ≤ word i j
  column_least {i} {j} l k f =
      let a : words i ≢ mark = not_marked l k f in
      rw (← lifted i l a) (word_keeps i (words i) j (((columns i l).named a).nearest j k f))

  -- no feature has a lesser word than a row line
  row_least : {d site : ℕ} → RowWord w combine words value x d site → (i j : ℕ) → i < w → j < h → Feature i j →
      d ≤ word i j
  row_least r i j l k f = omega (arith, column_least l k f, r.least i l (not_marked l k f))

  -- the word of a row line is the least word of all features, and the cell that it names is the one of the tie rule
  pub row_step : {d site : ℕ} (r : RowWord w combine words value x d site) →
      Least w h Feature word d × Site w h Feature word dy r.i (words r.i)
  row_step {d} r =
      let i = r.i in
      let n = (columns i r.column_in).named r.unmarked in
      let e : word i (words i) ≡ d = cc (lifted i r.column_in r.unmarked) in (
        record {
          i = i;
          j = words i;
          column_in = r.column_in;
          row_in = n.row_in;
          feature = n.feature;
          attained = e;
          least = row_least r;
        },
        record {
          column_in = r.column_in;
          row_in = n.row_in;
          feature = n.feature;
          least = rw e (row_least r);
          least_column = λ i' j' l k f e'. r.least_column i' l (not_marked l k f)
              (omega (arith, column_least l k f, r.least i' l (not_marked l k f)));
          least_dy = λ j' k f e'. dy_keeps i (words i) j' (n.nearest j' k f);
          least_row = λ j' k f e' e''. n.upper j' k f (rank_same i j' (words i) e' e'');
        },
      )

-- a kind that has parts is its measure
pub parts : (kind d1 d2 dx dy : ℕ) → HasParts kind →
    distance kind d1 d2 dx dy ≡ (measure kind).combine dx ((measure kind).lift dy)
parts zero d1 d2 dx dy l = refl
parts (suc zero) d1 d2 dx dy l = refl
parts (suc (suc zero)) d1 d2 dx dy l = refl
parts (suc (suc (suc k))) d1 d2 dx dy l = absurd (omega (arith, l.no_chamfer))

-- The step for a picture: the rows of a column are ranked by dy.
pub picture_step : (kind d1 d2 w h : ℕ) (picture : List ℕ) (x y : ℕ) (words : ℕ → ℕ) {d site : ℕ} →
    HasParts kind →
    ((i : ℕ) → i < w → ColumnWord h (Bored w picture i) (away y) (words i)) →
    RowWord w (measure kind).combine words (λ i. (measure kind).lift (away y (words i))) x d site →
    MapWord kind d1 d2 w h picture x y d × MapSite kind d1 d2 w h picture x y site
picture_step kind d1 d2 w h picture x y words p columns r =
    let law = lawful kind p in
    let s = row_step w h (Bored w picture) (bore_word kind d1 d2 x y) (λ i. away y) (away y) (measure kind).combine
    words (λ i. (measure kind).lift (away y (words i))) x columns (λ i k a. simp parts)
    (λ i j j' k. simp parts (law.keeps _ _ _ (law.rises _ _ k))) (λ i j j' k. k) (λ i j j' e e'. e') r in
    (s.0, record { i = r.i; j = words r.i; site_is = r.site_is; rule = s.1 })

-- where costs are added, columns that combine to the same hold the same
same_value : {m : Measure} → Additive m → (dx v v' : ℕ) → m.combine dx v ≡ m.combine dx v' → v ≡ v'
same_value a dx v v' e = omega (arith, simp zero-add at (a.adds dx 0 v), simp zero-add at (a.adds dx 0 v'))

-- The step for costs: the rows of a column are ranked by lift plus cost.
pub cost_step : (kind w h : ℕ) (costs : List ℕ) (x y : ℕ) (words : ℕ → ℕ) {d site : ℕ} →
    kind ≤ cost_kind_limit →
    ((i : ℕ) → i < w → ColumnWord h (Unmarked w costs i) (cost_rank kind w costs y i) (words i)) →
    RowWord w (measure kind).combine words (λ i. cost_rank kind w costs y i (words i)) x d site →
    CostMapWord kind w h costs x y d × CostMapSite kind w h costs x y site
cost_step kind w h costs x y words l columns r =
    let p = cost_parts l in
    let law = lawful kind p in
    let a = additive kind l in
    let s = row_step w h (Unmarked w costs) (cost_word kind w costs x y) (cost_rank kind w costs y) (λ j. 0)
    (measure kind).combine words (λ i. cost_rank kind w costs y i (words i)) x columns
    (λ i k n. simp (parts, ← a.adds)) (λ i j j' k. simp (parts, ← a.adds) (law.keeps _ _ _ k))
    (λ i j j' k. omega arith) (λ i j j' e e'. same_value a (away x i) _ _ (simp (parts, ← a.adds) at e)) r in (
      s.0,
      record {
        i = r.i;
        j = words r.i;
        site_is = r.site_is;
        rule = cost_as_site.1 s.1;
      },
    )
