-- Row after row. A row line writes its own row of distances and sites and uses the words after the cells' words; so the rows
-- before it stay, the rows after it are untouched, and the next row finds its words as they were. Assumes nothing.
use mathlib.Core.Path.{◌≡◌, refl, sym, ◌∙◌, ap, subst, subst₂}
use mathlib.Core.Logic.{◌≢◌, inl, inr, ⊎_elim, by_cases}
use mathlib.Core.List.{List}
use Prim.Native.Nat.{ℕ, ◌+◌, ◌-◌, ◌*◌, ◌≤◌, ◌<◌}
use native.Mathlib.Nat.{eq-or-lt_of_le}
use native.Mathlib.Decide.{ℕ_discrete}
use native.Mathlib.Omega.{arith}
use lib.ListN.{length, get_or}
use borrow.Rule.Slice.PartMut.{put_mid}
use Rattle.rules.specs.Limits.{mark}
use Rattle.rules.specs.Board.{Sides, cell, away}
use Rattle.rules.specs.Columns.{RowWord}
use Rattle.rules.specs.Calls.{Beyond}
use Rattle.rules.proofs.Board.{row_ends}
use Rattle.rules.proofs.Columns.{row_word_same}
use Rattle.rules.proofs.Parts.{beyond_more, beyond_both}
use Rattle.rules.proofs.RowParts.{put_here, put_elsewhere, put_past}
use Rattle.rules.specs.declared.kind.LineKind.{LineKind}
use Rattle.gauge.specs.Line.{measured}
use Rattle.rows.specs.Row.{Believed, RowMade}
use Rattle.maps.specs.Rows.{word_of, Believable, RowsMade}

-- no row yet
pub rows_none : {kind : LineKind} {w h : ℕ} (scratch d s : List ℕ) → RowsMade kind w h 0 scratch scratch d d s s
rows_none scratch d s =
    record {
      rows = λ x y h l. absurd (omega arith);
      kept = λ k h. refl;
      scratch_beyond = record { as_long = refl; untouched = refl };
      distances_beyond = record { as_long = refl; untouched = refl };
      sites_beyond = record { as_long = refl; untouched = refl };
    }

module _ {kind : LineKind} {w h : ℕ} {before d s : List ℕ} (sides : Sides w h) where
  -- what the next row line asks
  pub row_believed : {y : ℕ} {after d' s' : List ℕ} → Believable w h before
      → w * h + w + w ≤ length before → y < h → RowsMade kind w h y before after d d' s s'
      → Believed (y * w) (w * h) after w
  row_believed {y} {after = after} B room l R =
      let same : (i : ℕ) → i < w → get_or after (y * w + i) 0 ≡ word_of w before y i =
      λ i h. R.kept (y * w + i) (omega (arith, row_ends w refl l)) in
      record {
        from = sides.width_from;
        to = sides.width_to;
        before_tail = row_ends w refl l;
        room = omega (arith, R.scratch_beyond.as_long);
        named =
            λ i h.
            by_cases (ℕ_discrete (word_of w before y i) mark) (λ e. inr (same i h ∙ e))
            (λ n. inl (omega (arith, same i h, B.named i y h l n, sides.height_to)));
        i₀ = B.i₀;
        i₀_in = B.i₀_in;
        i₀_named = λ e. B.i₀_named y l (sym (same B.i₀ B.i₀_in) ∙ e);
      }

  module _ {y : ℕ} {after after' d' s' : List ℕ} (drow srow : List ℕ) (l : y < h) (d_long : w * h ≤ length d)
      (s_long : w * h ≤ length s) (drow_long : length drow ≡ w) (srow_long : length srow ≡ w)
      (R : RowsMade kind w h y before after d d' s s') (M : RowMade kind y (y * w) (w * h) w after after' drow srow) where
    d_room : w * h ≤ length d'
    d_room = omega (arith, R.distances_beyond.as_long)

    s_room : w * h ≤ length s'
    s_room = omega (arith, R.sites_beyond.as_long)

    -- this row
    here : (x : ℕ) → x < w → RowWord w (measured kind).combine (word_of w before y)
        (λ i. (measured kind).lift (away y (word_of w before y i))) x
        (get_or (put_mid (y * w) (y * w + w - y * w) d' drow) (cell w x y) 0)
        (get_or (put_mid (y * w) (y * w + w - y * w) s' srow) (cell w x y) 0)
    here x in_row =
        subst₂ (λ a b. RowWord w (measured kind).combine (word_of w before y)
        (λ i. (measured kind).lift (away y (word_of w before y i))) x a b)
        (sym (put_here d' drow refl l d_room drow_long in_row)) (sym (put_here s' srow refl l s_room srow_long in_row))
        (row_word_same same (λ i b n. ap (λ word. (measured kind).lift (away y word)) (same i b)) (M.row x in_row))
      where
        same : (i : ℕ) → i < w → get_or after (y * w + i) 0 ≡ word_of w before y i
        same i b = R.kept (y * w + i) (omega (arith, row_ends w refl l))

    -- an earlier row
    earlier : (x y' : ℕ) → x < w → y' < y → RowWord w (measured kind).combine (word_of w before y')
        (λ i. (measured kind).lift (away y' (word_of w before y' i))) x
        (get_or (put_mid (y * w) (y * w + w - y * w) d' drow) (cell w x y') 0)
        (get_or (put_mid (y * w) (y * w + w - y * w) s' srow) (cell w x y') 0)
    earlier x y' in_row b =
        let other : y' ≢ y = omega arith in
        subst₂ (λ a b. RowWord w (measured kind).combine (word_of w before y')
        (λ i. (measured kind).lift (away y' (word_of w before y' i))) x a b)
        (sym (put_elsewhere d' drow refl l d_room drow_long in_row other))
        (sym (put_elsewhere s' srow refl l s_room srow_long in_row other)) (R.rows x y' in_row b)

    -- one row more
    pub rows_more : RowsMade kind w h (y + 1) before after' d (put_mid (y * w) (y * w + w - y * w) d' drow) s
        (put_mid (y * w) (y * w + w - y * w) s' srow)
    rows_more =
        record {
          rows =
              λ x y' in_row k.
              let at_most : y' ≤ y = omega arith in
              ⊎_elim
              (λ e. subst (λ n. RowWord w (measured kind).combine (word_of w before n)
              (λ i. (measured kind).lift (away n (word_of w before n i))) x
              (get_or (put_mid (y * w) (y * w + w - y * w) d' drow) (cell w x n) 0)
              (get_or (put_mid (y * w) (y * w + w - y * w) s' srow) (cell w x n) 0)) (sym e) (here x in_row))
              (λ b. earlier x y' in_row b) (eq-or-lt_of_le at_most);
          kept = λ k h. M.used.kept k h ∙ R.kept k h;
          scratch_beyond = beyond_both R.scratch_beyond M.used.beyond;
          distances_beyond =
              subst (λ n. Beyond n d (put_mid (y * w) (y * w + w - y * w) d' drow)) next
              (beyond_both (beyond_more {n = y * w} (omega arith) R.distances_beyond) (put_past d' drow refl l d_room drow_long));
          sites_beyond =
              subst (λ n. Beyond n s (put_mid (y * w) (y * w + w - y * w) s' srow)) next
              (beyond_both (beyond_more {n = y * w} (omega arith) R.sites_beyond) (put_past s' srow refl l s_room srow_long));
        }
      where
        next : y * w + w ≡ (y + 1) * w
        next = omega arith
