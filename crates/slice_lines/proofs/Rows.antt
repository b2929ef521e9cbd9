-- Row after row. A row line that can be done is believed: each of its words names a row of the board or is the mark, and one
-- names a row. It writes its own row of distances and sites and uses the words after the cells' words: so the rows before it
-- stay, the rows after it are untouched, and the next row finds its words as they were. Assumes nothing.
use mathlib.Core.Path.{◌≡◌, refl, sym, ◌∙◌, ap, subst, subst₂}
use mathlib.Core.Logic.{◌≢◌, inl, inr, by_cases}
use mathlib.Core.List.{List}
use Prim.Native.Nat.{ℕ, ◌+◌, ◌-◌, ◌*◌, ◌≤◌, ◌<◌}
use native.Mathlib.Decide.{ℕ_discrete}
use native.Mathlib.Omega.{arith}
use lib.ListN.{length, get_or}
use borrow.Rule.Slice.PartMut.{put_mid, mid_of, put_same}
use Rattle.rules.specs.Limits.{mark}
use Rattle.rules.specs.Answers.{kind_number}
use Rattle.rules.specs.Board.{Sides, cell, away}
use Rattle.rules.specs.Refusals.{answer}
use Rattle.rules.specs.declared.kind.LineKind.{LineKind}
use Rattle.rules.specs.Slices.{word_at, row_rows, Among, BelievedWord}
use Rattle.rules.proofs.Board.{row_ends, cell_in}
use Rattle.rules.proofs.Columns.{row_word_same}
use Rattle.rules.proofs.Measures.{has_parts}
use Rattle.rules.proofs.Parts.{beyond_both}
use Rattle.rules.proofs.RowParts.{row_part_long, put_here, put_elsewhere, put_beyond}
use Rattle.rules.proofs.SliceRows.{row_passes, row_number_same}
use Rattle.rules.proofs.Slices.{row_by_parts}
use Rattle.rows.specs.Row.{Believed}
use Rattle.slice_lines.specs.Lines.{RowPlace, RowOnce, RowsWritten, RowsDone}

-- what the row line asks, of a row that can be done
pub row_believed : {w h y at : ℕ} {scratch : List ℕ} → Sides w h → RowPlace w h y at (length scratch)
    → answer (row_rows w h scratch y) ≡ 0 → Believed at (w * h) scratch w
row_believed {w} {h} {y} {at} {scratch} S P can =
    let (named, one) = row_passes w h scratch y can in
    let (i₀, i₀_in, i₀_named) = one in
    let same : (i : ℕ) → get_or scratch (at + i) 0 ≡ word_at w scratch i y = λ i. ap (λ n. get_or scratch (n + i) 0) P.at_is in
    record {
      from = S.width_from;
      to = S.width_to;
      before_tail = row_ends w P.at_is P.row_in;
      room = P.room;
      named =
          λ i l.
          by_cases (ℕ_discrete (word_at w scratch i y) mark) (λ e. inr (same i ∙ e))
          (λ n. inl (omega (arith, same i, named i l n, S.height_to)));
      i₀ = i₀;
      i₀_in = i₀_in;
      i₀_named = λ e. i₀_named (sym (same i₀) ∙ e);
    }

-- no row is written yet
pub written_none : {w h from : ℕ} (list : List ℕ) → RowsWritten w h from from list list
written_none list = record { others = λ x k l m n. refl; beyond = record { as_long = refl; untouched = refl } }

-- one row more is
written_more : {w h from y at : ℕ} {before : List ℕ} (now part : List ℕ) → at ≡ y * w → y < h → from ≤ y → w * h ≤ length before
    → length part ≡ w → RowsWritten w h from y before now → RowsWritten w h from (y + 1) before (put_mid at (at + w - at) now part)
written_more {w} {h} {from} {y} now part at_is in_column l room long W =
    let wide : w * h ≤ length now = omega (arith, W.beyond.as_long) in
    record {
      others =
          λ x k m n out.
          let other : k ≢ y = λ e. out (omega arith, omega arith) in
          put_elsewhere now part at_is in_column wide long m other ∙ W.others x k m n (λ a. out (a.0, omega arith));
      beyond = beyond_both W.beyond (put_beyond now part at_is in_column wide long);
    }

-- no row line is done yet
pub rows_none : {kind w h from : ℕ} (scratch d s : List ℕ) → RowsDone kind w h from from scratch scratch d d s s
rows_none scratch d s =
    record {
      none_stops = λ k a. absurd (omega arith);
      words = λ x k l a. absurd (omega arith);
      cells_kept = λ k l. refl;
      scratch_beyond = record { as_long = refl; untouched = refl };
      distances_written = written_none d;
      sites_written = written_none s;
    }

module _ (kind : LineKind) {w h from y at : ℕ} {before after d d' s s' : List ℕ}
    (R : RowsDone (kind_number kind) w h from y before after d d' s s') (at_is : at ≡ y * w) (row_in : y < h) where
  -- the row finds its words as they were
  kept : (x : ℕ) → x < w → word_at w after x y ≡ word_at w before x y
  kept x l = R.cells_kept (cell w x y) (cell_in l row_in)

  module _ {after' drow drow' srow srow' : List ℕ} {number : ℕ}
      (O : RowOnce kind w h y at after after' drow drow' srow srow' number) where
    -- so its number is that of the words as they were
    pub once_number : number ≡ answer (row_rows w h before y)
    once_number = O.number_is ∙ row_number_same w h after before y kept

    -- where it stops, the rows that are done stay
    pub rows_stay : number ≢ 0 → drow ≡ mid_of at (at + w - at) d' → srow ≡ mid_of at (at + w - at) s'
        → RowsDone (kind_number kind) w h from y before after' d (put_mid at (at + w - at) d' drow') s
        (put_mid at (at + w - at) s' srow')
    rows_stay some d-part s-part =
        let (same, d_same, s_same) = O.stopped some in
        let d_back : put_mid at (at + w - at) d' drow' ≡ d' =
        ap (put_mid at (at + w - at) d') (d_same ∙ d-part) ∙ put_same at (at + w - at) d' in
        let s_back : put_mid at (at + w - at) s' srow' ≡ s' =
        ap (put_mid at (at + w - at) s') (s_same ∙ s-part) ∙ put_same at (at + w - at) s' in
        subst₂ (λ a b. RowsDone (kind_number kind) w h from y before after' d a s b) (sym d_back) (sym s_back)
        (subst (λ a. RowsDone (kind_number kind) w h from y before a d d' s s') (sym same) R)

    module _ (is : number ≡ 0) (l : from ≤ y) (d_long : w * h ≤ length d) (s_long : w * h ≤ length s)
        (drow_same : length drow' ≡ length (mid_of at (at + w - at) d'))
        (srow_same : length srow' ≡ length (mid_of at (at + w - at) s')) where
      abbrev d'' : List ℕ
      d'' = put_mid at (at + w - at) d' drow'

      abbrev s'' : List ℕ
      s'' = put_mid at (at + w - at) s' srow'

      d_room : w * h ≤ length d'
      d_room = omega (arith, R.distances_written.beyond.as_long)

      s_room : w * h ≤ length s'
      s_room = omega (arith, R.sites_written.beyond.as_long)

      -- the rows come back as long as a row
      drow_long : length drow' ≡ w
      drow_long = drow_same ∙ row_part_long d' at_is row_in d_room

      srow_long : length srow' ≡ w
      srow_long = srow_same ∙ row_part_long s' at_is row_in s_room

      -- this row
      here : (x : ℕ) → x < w → BelievedWord (kind_number kind) w before x y (get_or d'' (cell w x y) 0) (get_or s'' (cell w x y) 0)
      here x m =
          let same : (i : ℕ) → i < w → get_or after (at + i) 0 ≡ word_at w before i y =
          λ i n. ap (λ k. get_or after (k + i) 0) at_is ∙ kept i n in
          subst₂ (λ a b. BelievedWord (kind_number kind) w before x y a b)
          (sym (put_here d' drow' at_is row_in d_room drow_long m))
          (sym (put_here s' srow' at_is row_in s_room srow_long m))
          (row_word_same same (λ i n o. ap (away y) (same i n)) (row_by_parts y (has_parts kind) ((O.made is).row x m)))

      -- an earlier row
      earlier : (x k : ℕ) → x < w → k ≢ y → Among from y k
          → BelievedWord (kind_number kind) w before x k (get_or d'' (cell w x k) 0) (get_or s'' (cell w x k) 0)
      earlier x k m other a =
          subst₂ (λ a b. BelievedWord (kind_number kind) w before x k a b)
          (sym (put_elsewhere d' drow' at_is row_in d_room drow_long m other))
          (sym (put_elsewhere s' srow' at_is row_in s_room srow_long m other)) (R.words x k m a)

      -- one row line more
      pub rows_more : RowsDone (kind_number kind) w h from (y + 1) before after' d d'' s s''
      rows_more =
          record {
            none_stops =
                λ k a.
                by_cases (ℕ_discrete k y)
                (λ e. subst (λ (j : ℕ). answer (row_rows w h before j) ≡ 0) (sym e) (sym once_number ∙ is))
                (λ other. R.none_stops k (a.0, omega arith));
            words =
                λ x k m a.
                by_cases (ℕ_discrete k y)
                (λ e. subst (λ j. BelievedWord (kind_number kind) w before x j (get_or d'' (cell w x j) 0) (get_or s'' (cell w x j) 0)) (sym e)
                (here x m)) (λ other. earlier x k m other (a.0, omega arith));
            cells_kept = λ k m. (O.made is).used.kept k m ∙ R.cells_kept k m;
            scratch_beyond = beyond_both R.scratch_beyond (O.made is).used.beyond;
            distances_written = written_more d' drow' at_is row_in l d_long drow_long R.distances_written;
            sites_written = written_more s' srow' at_is row_in l s_long srow_long R.sites_written;
          }
