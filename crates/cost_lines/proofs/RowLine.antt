-- From the column words of a cost picture to the map of one row. The word of a column that has a cost names the nearest of
-- its rows by rank, and the column stands at that rank; a column that has none stands at the line limit. So the line is one
-- that the rows can read, and the step from columns to rows makes the map of what comes of it. Assumes nothing.
use mathlib.Core.Path.{◌≡◌, refl, ◌∙◌}
use mathlib.Core.Logic.{◌≢◌, inl, inr, by_cases}
use mathlib.Core.List.{List}
use Prim.Native.Nat.{ℕ, ◌+◌, ◌-◌, ◌*◌, ◌^◌, ◌≤◌, ◌<◌}
use native.Mathlib.Nat.{lt_of_le_of_lt}
use native.Mathlib.Decide.{ℕ_discrete}
use native.Mathlib.Omega.{arith}
use borrow.Author.Count.{below_more}
use borrow.Author.Tests.{eq-eqb, ne_eqb}
use borrow.Rule.Slice.PartMut.{put_mid, same_len_mid}
use lib.ListN.{length, get_or, take, drop}
use Rattle.rules.specs.Limits.{side_limit, mark}
use Rattle.rules.specs.Board.{cell, away}
use Rattle.rules.specs.Columns.{cost_rank}
use Rattle.rules.specs.Tie.{CostMapWord, CostMapSite}
use Rattle.rules.specs.Refusals.{scratch_words}
use Rattle.rules.proofs.Board.{cell_in, row_ends}
use Rattle.rules.proofs.Columns.{row_word_same, cost_step}
use Rattle.rules.proofs.RowParts.{row_part_long, put_here, put_elsewhere}
use Rattle.rules.specs.Answers.{kind_number}
use Rattle.rules.specs.declared.kind.LineKind.{LineKind}
use Rattle.gauge.proofs.Places.{apart_below}
use Rattle.rows.specs.Row.{Believed, LineRead, LineOut}
use Rattle.rows.proofs.RowLine.{lift_small, words_part, words_length, words_at}
use Rattle.cost_lines.specs.Lines.{Ranked, column_value}
use Rattle.cost_lines.specs.After.{FitAccepted, ColumnsAfter, RowAfter, RowsAfter, RowMore}
use Rattle.cost_lines.proofs.ColumnLine.{within_limit}

module _ (kind : LineKind) {w h y : ℕ} {costs : List ℕ} (scratch : List ℕ)
    (P : FitAccepted (kind_number kind) w h costs) (y_in : y < h) (C : ColumnsAfter (kind_number kind) w h costs scratch w)
    (room : length scratch ≡ scratch_words w h) where
  -- what a row line asks of the words
  believed : Believed (y * w) (w * h) scratch w
  believed =
      let (i₀, j₀, column_in, row_in, unmarked) = P.unmarked in
      record {
        from = P.sides.width_from;
        to = P.sides.width_to;
        before_tail = row_ends w refl y_in;
        room = omega arith;
        named =
            λ i l.
            by_cases (ℕ_discrete (get_or scratch (cell w i y) 0) mark) (λ e. inr e)
            (λ n. inl (omega (arith, ((C i l y y_in).named n).row_in, P.sides.height_to)));
        i₀ = i₀;
        i₀_in = column_in;
        i₀_named = λ e. (C i₀ column_in y y_in).empty e j₀ row_in unmarked;
      }

  -- the rank of a row that a word names is small
  rank_small : (i : ℕ) → i < w → get_or scratch (cell w i y) 0 ≢ mark
      → cost_rank (kind_number kind) w costs y i (get_or scratch (cell w i y) 0) < 2 ^ 31
  rank_small i l n =
      let word = get_or scratch (cell w i y) 0 in
      let N = (C i l y y_in).named n in
      let below : word < side_limit = omega (arith, N.row_in, P.sides.height_to) in
      let near : away y word < side_limit = lt_of_le_of_lt (apart_below y word) (omega (arith, P.sides.height_to)) in
      omega (arith, lift_small (kind_number kind) near, within_limit P i word l N.row_in N.feature)

  module _ {values : List ℕ} (long : length values ≡ w)
      (R : Ranked (kind_number kind) y costs (words_part (y * w) w scratch) values) where
    -- what fill has put for column i
    filled : (i : ℕ) → i < w
        → get_or values i 0 ≡ column_value (kind_number kind) w costs y i (get_or scratch (cell w i y) 0)
    filled i l =
        rw (words_length believed, words_at believed i l) at (R.each i (omega (arith, words_length believed)))

    -- for a column that names a row that is its rank
    ranked : (i : ℕ) → i < w → get_or scratch (cell w i y) 0 ≢ mark
        → get_or values i 0 ≡ cost_rank (kind_number kind) w costs y i (get_or scratch (cell w i y) 0)
    ranked i l n = filled i l ∙ rw (ne_eqb (get_or scratch (cell w i y) 0) mark n)

    -- the values that fill puts are a line that can be read
    pub line_read : LineRead (y * w) (w * h) scratch values
    line_read =
        record {
          believed = rw long believed;
          small = λ i l n. omega (arith, ranked i (omega arith) n, rank_small i (omega arith) n);
          marked = λ i l e. filled i (omega arith) ∙ rw (eq-eqb (get_or scratch (cell w i y) 0) mark e);
        }

    module _ {after distances sites : List ℕ}
        (O : LineOut kind (y * w) (w * h) scratch values after distances sites) where
      -- what comes of it is the row's map
      row_map : (x : ℕ) → x < w → CostMapWord (kind_number kind) w h costs x y (get_or distances x 0)
          × CostMapSite (kind_number kind) w h costs x y (get_or sites x 0)
      row_map x l =
          let row = rw long at (O.row x (omega arith)) in
          cost_step (kind_number kind) w h costs x y (λ i. get_or scratch (cell w i y) 0) P.kind_in (λ i b. C i b y y_in)
          (row_word_same (λ i b. refl) ranked row)

      -- the row made
      pub row_more : RowMore (kind_number kind) w h y costs scratch after distances sites
      row_more =
          record {
            made = record { words = λ x l. (row_map x l).0; names = λ x l. (row_map x l).1 };
            kept = O.used.kept;
          }

-- a row that stands elsewhere with the same words and sites is made too
row_same : {kind w h y : ℕ} {costs : List ℕ} {word word' site site' : ℕ → ℕ} → RowAfter kind w h costs y word site
    → ((x : ℕ) → x < w → word' x ≡ word x) → ((x : ℕ) → x < w → site' x ≡ site x) → RowAfter kind w h costs y word' site'
row_same R d s = record { words = λ x l. rw (d x l) (R.words x l); names = λ x l. rw (s x l) (R.names x l) }

-- going over the rows: the rows above y have their map, and the column words are as they were
pub record Crossing (kind w h : ℕ) (costs values scratch distances sites : List ℕ) (y : ℕ) : Type 0 where
  pub values_long : length values ≡ w
  pub scratch_long : length scratch ≡ scratch_words w h
  pub distances_long : length distances ≡ w * h
  pub sites_long : length sites ≡ w * h
  pub columns : ColumnsAfter kind w h costs scratch w
  pub made : RowsAfter kind w h costs distances sites y
  pub within : y ≤ h

-- the part of a list that row y is
abbrev pub row_part : ℕ → ℕ → List ℕ → List ℕ
row_part w y l = take (y * w + w - y * w) (drop (y * w) l)

-- the list after the row has come back
abbrev pub row_put : ℕ → ℕ → List ℕ → List ℕ → List ℕ
row_put w y l part = put_mid (y * w) (y * w + w - y * w) l part

-- one row more
pub crossing_more : {kind w h y : ℕ} {costs values scratch distances sites values' scratch' : List ℕ}
    (word_part site_part : List ℕ)
    → Crossing kind w h costs values scratch distances sites y → y < h
    → RowMore kind w h y costs scratch scratch' word_part site_part
    → length values' ≡ length values → length scratch' ≡ length scratch
    → length word_part ≡ length (row_part w y distances) → length site_part ≡ length (row_part w y sites)
    → Crossing kind w h costs values' scratch' (row_put w y distances word_part) (row_put w y sites site_part) (y + 1)
crossing_more {kind} {w} {h} {y} {costs} {scratch = scratch} {distances = distances} {sites = sites}
    {scratch' = scratch'} word_part site_part X y_in M v s d n =
    let d_room : w * h ≤ length distances = omega (arith, X.distances_long) in
    let n_room : w * h ≤ length sites = omega (arith, X.sites_long) in
    let d' = d ∙ row_part_long distances refl y_in d_room in
    let n' = n ∙ row_part_long sites refl y_in n_room in
    record {
      values_long = v ∙ X.values_long;
      scratch_long = s ∙ X.scratch_long;
      distances_long = same_len_mid (y * w) (y * w + w - y * w) distances word_part d ∙ X.distances_long;
      sites_long = same_len_mid (y * w) (y * w + w - y * w) sites site_part n ∙ X.sites_long;
      columns = λ i l j m. rw (M.kept (cell w i j) (cell_in l m)) (X.columns i l j m);
      made =
          below_more (λ j. RowAfter kind w h costs j (λ x. get_or (row_put w y distances word_part) (cell w x j) 0)
          (λ x. get_or (row_put w y sites site_part) (cell w x j) 0)) y
          (λ j l.
          let above : j ≢ y = omega arith in
          row_same (X.made j l) (λ x m. put_elsewhere distances word_part refl y_in d_room d' m above)
          (λ x m. put_elsewhere sites site_part refl y_in n_room n' m above))
          (row_same M.made (λ x m. put_here distances word_part refl y_in d_room d' m)
          (λ x m. put_here sites site_part refl y_in n_room n' m));
      within = omega arith;
    }
