-- From the line of a column to its words. On the line a cell that has a cost is as high, at the place y, as its rank
-- seen from row y: lift plus cost. A marked cell stands at the line limit, which is above every such height. So where
-- the column has a cost, the winner is the nearest row by rank, the upper one on a tie; and where even the winner is
-- marked, the column has none. Assumes nothing.
use mathlib.Core.Path.{◌≡◌, refl, sym, ◌∙◌, ap, subst}
use mathlib.Core.Logic.{◌≢◌, ⊎_elim, by_cases}
use mathlib.Core.List.{List}
use Prim.Native.Nat.{ℕ, zero, suc, ◌+◌, ◌*◌, ◌≤◌, ◌<◌}
use native.Mathlib.Nat.{lt_of_le_of_lt}
use native.Mathlib.Decide.{ℕ_discrete}
use native.Mathlib.Omega.{arith}
use borrow.Author.Count.{below_more}
use borrow.Author.Tests.{eq-eqb, ne_eqb}
use borrow.Rule.Slice.PartMut.{put_mid}
use lib.ListN.{length, get_or}
use Rattle.rules.specs.Limits.{side_limit, mark, cost_kind_limit, cost_limit, line_limit}
use Rattle.rules.specs.Board.{cell, away, cost_at, Unmarked}
use Rattle.rules.specs.Measures.{measure}
use Rattle.rules.specs.Columns.{Nearest, ColumnWord, cost_rank}
use Rattle.rules.specs.Refusals.{scratch_words}
use Rattle.rules.proofs.Board.{cell_in}
use Rattle.rules.proofs.Measures.{lawful, has_parts}
use Rattle.rules.proofs.Refusals.{getD_within}
use Rattle.rules.proofs.Parts.{put_before}
use Rattle.rules.specs.Answers.{kind_number}
use Rattle.rules.specs.declared.kind.LineKind.{LineKind}
use Rattle.gauge.specs.Line.{measured, Line, Wins, height_at}
use Rattle.gauge.proofs.Places.{apart_below}
use Rattle.rows.proofs.RowLine.{combine_small}
use Rattle.cost_lines.specs.Lines.{Gathered, winner_word, Scattered}
use Rattle.cost_lines.specs.After.{FitAccepted, ColumnAfter, ColumnsAfter, ColumnMore}

-- a cell that has a cost has one within the limit
pub within_limit : {kind w h : ℕ} {costs : List ℕ} → FitAccepted kind w h costs → (i j : ℕ) → i < w → j < h → Unmarked w costs i j
    → cost_at w costs i j ≤ cost_limit
within_limit {w = w} {costs = costs} P i j l m n =
    let within : cell w i j < length costs = omega (arith, cell_in l m, P.lent.picture_is) in
    let same = getD_within costs (cell w i j) mark 0 within in
    ⊎_elim (λ c. omega (arith, same)) (λ e. absurd (n (same ∙ e))) (P.costs_in (cell w i j) within)

-- in the kinds of costs a value is added to the lifted difference
added : (kind dx v : ℕ) → kind ≤ cost_kind_limit → (measure kind).combine dx v ≡ (measure kind).lift dx + v
added zero dx v l = refl
added (suc zero) dx v l = refl
added (suc (suc k)) dx v l = absurd (omega arith)

module _ (kind : LineKind) {w h x : ℕ} {costs values : List ℕ} (P : FitAccepted (kind_number kind) w h costs) (x_in : x < w)
    (long : length values ≡ h) (G : Gathered w x costs values) where
  -- a cell that has a cost stands at it, and a marked one at the line limit
  true_value : (j : ℕ) → j < h → Unmarked w costs x j → get_or values j 0 ≡ cost_at w costs x j
  true_value j l n = G.each j (omega arith) ∙ rw (ne_eqb (cost_at w costs x j) mark n)

  marked_value : (j : ℕ) → j < h → cost_at w costs x j ≡ mark → get_or values j 0 ≡ line_limit
  marked_value j l e = G.each j (omega arith) ∙ rw (eq-eqb (cost_at w costs x j) mark e)

  -- the values of a column are a line
  pub column_line : Line values
  column_line =
      record {
        from = omega (arith, P.sides.height_from);
        to = omega (arith, P.sides.height_to);
        values_to =
            λ j below.
            let l : j < h = omega arith in
            by_cases (ℕ_discrete (cost_at w costs x j) mark) (λ e. omega (arith, marked_value j l e))
            (λ n. omega (arith, true_value j l n, within_limit P x j x_in l n));
      }

  -- a cell that has a cost is as high as its rank, and lower than the line limit
  rank_height : (j y : ℕ) → j < h → Unmarked w costs x j → height_at kind values j y ≡ cost_rank (kind_number kind) w costs y x j
  unfolding height_at
  rank_height j y l n =
      ap ((measured kind).combine (away y j)) (true_value j l n)
      ∙ added (kind_number kind) (away y j) (cost_at w costs x j) P.kind_in

  low : (j y : ℕ) → j < h → y < h → Unmarked w costs x j → height_at kind values j y < line_limit
  unfolding height_at
  low j y l m n =
      let near : away y j < side_limit = lt_of_le_of_lt (apart_below y j) (omega (arith, P.sides.height_to)) in
      let s = combine_small (kind_number kind) (get_or values j 0) near in
      omega (arith, true_value j l n, within_limit P x j x_in l n)

  -- a marked cell is as high as the line limit
  high : (j y : ℕ) → j < h → cost_at w costs x j ≡ mark → line_limit ≤ height_at kind values j y
  unfolding height_at
  high j y l e =
      subst (λ b. b ≤ height_at kind values j y) (marked_value j l e)
      ((lawful (kind_number kind) (has_parts kind)).stands (away y j) (get_or values j 0))

  module _ {y j : ℕ} (y_in : y < h) (W : Wins (height_at kind values) (length values) y j) where
    winner_in : j < h
    winner_in = omega (arith, W.column_in)

    -- a winner that has a cost is the nearest row
    winner_nearest : Unmarked w costs x j → Nearest h (Unmarked w costs x) (cost_rank (kind_number kind) w costs y x) j
    winner_nearest n =
        let e = rank_height j y winner_in n in
        record {
          row_in = winner_in;
          feature = n;
          nearest = λ k l f. omega (arith, W.lowest k (omega arith), rank_height k y l f);
          upper = λ k l f q. W.least_column k (omega arith) (rank_height k y l f ∙ q ∙ sym e);
        }

    -- the word of the winner is the column's
    pub column_word : ColumnWord h (Unmarked w costs x) (cost_rank (kind_number kind) w costs y x) (winner_word values j)
    column_word =
        by_cases (ℕ_discrete (cost_at w costs x j) mark)
        (λ e. rw (eq-eqb (get_or values j 0) line_limit (marked_value j winner_in e))
        (record {
          named = λ n. absurd (n refl);
          empty = λ _ k l f. omega (arith, W.lowest k (omega arith), low k y l y_in f, high j y winner_in e);
        }))
        (λ n.
        let cheap : get_or values j 0 ≢ line_limit =
        λ e. omega (arith, true_value j winner_in n, within_limit P x j x_in winner_in n) in
        rw (ne_eqb (get_or values j 0) line_limit cheap)
        (record {
          named = λ _. winner_nearest n;
          empty = λ e. absurd (omega (arith, winner_in, P.sides.height_to));
        }))

  -- the column made, from what the three steps leave
  pub column_more : {winners scratch after : List ℕ} (k : ℕ) (part : List ℕ) → length scratch ≡ scratch_words w h
      → ((y : ℕ) → y < length values → Wins (height_at kind values) (length values) y (get_or winners y 0))
      → Scattered w x values winners (put_mid (w * h) k scratch part) after
      → ColumnMore (kind_number kind) w h x costs scratch after
  column_more {winners} {scratch} k part room W S =
      record {
        made =
            λ y l.
            let below : y < length values = omega arith in
            rw (S.each y below) (column_word l (W y below));
        others = λ i y l m n. S.others i y l n ∙ put_before k scratch part (omega arith) (cell_in l m);
      }

-- going over the columns: the columns before x have their words
pub record Sweeping (kind w h : ℕ) (costs values winners scratch : List ℕ) (x : ℕ) : Type 0 where
  pub values_long : length values ≡ h
  pub winners_long : length winners ≡ h
  pub scratch_long : length scratch ≡ scratch_words w h
  pub left : ColumnsAfter kind w h costs scratch x
  pub within : x ≤ w

-- one column more
pub sweeping_more : {kind w h x : ℕ} {costs values winners scratch values' winners' scratch' : List ℕ}
    → Sweeping kind w h costs values winners scratch x → x < w
    → ColumnMore kind w h x costs scratch scratch'
    → length values' ≡ length values → length winners' ≡ length winners → length scratch' ≡ length scratch
    → Sweeping kind w h costs values' winners' scratch' (x + 1)
sweeping_more {kind} {w} {h} {x} {costs} {values} {scratch = scratch} {scratch' = scratch'} S x_in M v n s =
    record {
      values_long = v ∙ S.values_long;
      winners_long = n ∙ S.winners_long;
      scratch_long = s ∙ S.scratch_long;
      left =
          below_more (ColumnAfter kind w h costs scratch') x
          (λ i l y m. rw (M.others i y (omega arith) m (omega arith)) (S.left i l y m)) M.made;
      within = omega arith;
    }
