-- What the lines of a call leave, put together. The columns are swept as one band; a call that goes on to the rows has
-- swept all columns from its line on, so a row line finds the words of these columns, and of the columns before its line
-- those that stood there. The row lines change no cell's word, nor does setting the words after them to zero: so what was
-- so of the words when a line was looked at is so at the end. Assumes nothing.
use mathlib.Core.Path.{◌≡◌, refl, sym, ◌∙◌, ap, subst}
use mathlib.Core.Logic.{by_cases}
use mathlib.Core.List.{List}
use Prim.Native.Nat.{ℕ, ◌+◌, ◌-◌, ◌*◌, ◌≤◌, ◌<◌, min}
use native.Mathlib.Decide.{dec_lt}
use native.Mathlib.Omega.{arith}
use lib.ListN.{length, get_or}
use borrow.Rule.Slice.PartMut.{put_mid, mid_of, drop_put, same_len_mid}
use Rattle.rules.specs.Board.{cell, away, Bored}
use Rattle.rules.specs.Columns.{ColumnWord}
use Rattle.rules.specs.Refusals.{answer, scratch_words}
use Rattle.rules.specs.Calls.{buffers, Beyond}
use Rattle.rules.specs.Slices.{word_at, row_rows, line_number, allowed, Among, SliceAfter}
use Rattle.rules.proofs.Board.{cell_in, cell_inj}
use Rattle.rules.proofs.Columns.{row_word_same}
use Rattle.rules.proofs.Parts.{put_before, put_inside, part_length, beyond_more, beyond_both}
use Rattle.rules.proofs.SliceRows.{column_line_number, row_line_number, row_number_same}
use Rattle.columns.specs.Bands.{Swept}
use Rattle.columns.proofs.Bands.{band_beyond}
use Rattle.slice_lines.specs.Lines.{FirstBad, RowsEnded}
use Rattle.slices.specs.Work.{TailZeroed, LinesDone}

-- with n lines allowed from `line` to `end`: as many are finished as there are from `line` to `next`
module _ {line end n next : ℕ} (e : end ≡ line + n) (l : line ≤ next) where
  not_more : next ≤ end → next - line ≤ n
  not_more m = omega arith

  to_end : next - line ≡ n → next ≡ end
  to_end f = omega arith

  to_stop : next - line < n → next < end
  to_stop f = omega arith

module _ {w h line end a b c : ℕ} {picture before swept : List ℕ} (l : line ≤ end) (a_is : a ≡ min line w)
    (b_is : b ≡ min end w) (F : FirstBad w h a b picture c) (S : Swept w h a c picture before swept) where
  -- a column among the lines is one of the band's
  in_band : {x : ℕ} → x < w → line ≤ x → a ≤ x
  in_band m n = omega arith

  -- none of the band's columns stops
  columns_pass : (scratch : List ℕ) (k : ℕ) → k < w → line ≤ k → k < c → line_number w h picture scratch k ≡ 0
  columns_pass scratch k m n o = column_line_number w h picture scratch k m ∙ F.none_stops k (in_band m n) o

  -- past the board the sweep leaves every word
  swept_beyond : Beyond (w * h) before swept
  swept_beyond = record { as_long = S.as_long; untouched = band_beyond (omega (arith, F.to_in)) S }

  -- the words of another column stay
  others_stay : (x y : ℕ) → x < w → (line ≤ x → x < c → ⊥) → get_or swept (cell w x y) 0 ≡ get_or before (cell w x y) 0
  others_stay x y m out =
      S.others (cell w x y)
      (λ x' y' from to n e.
      let in_row : x' < w = omega (arith, F.to_in) in
      let (same, rest) = cell_inj y y' m in_row e in
      out (omega arith) (omega arith))

  -- a call that ends with its columns: at one that stops, or at the end of its lines
  module _ {kind number : ℕ} {d s : List ℕ} (short : line ≤ w) (all : c ≡ end → number ≡ 0)
      (stop : c < end → (c < b) × (number ≡ 5)) where
    pub columns_left : LinesDone w h kind line end picture (buffers d s before) number c (buffers d s swept)
    columns_left = record { from_in = from_in; to_in = to_in; zeroed = zeroed }
      where
        from_in : line ≤ c
        from_in = omega (arith, F.from_in)

        to_in : c ≤ end
        to_in = omega (arith, F.to_in)

        zeroed : (budget : ℕ) (scratch : List ℕ) → end ≡ line + allowed w h line budget → TailZeroed w h swept scratch
            → SliceAfter w h kind line budget picture (buffers d s before) number (c - line) c (buffers d s scratch)
        zeroed budget scratch e Z =
            record {
              at_most = not_more e from_in to_in;
              next_is = omega (arith, from_in);
              none_stops = λ k a. columns_pass scratch k (omega (arith, F.to_in)) a.0 a.1;
              all_finished = λ f. all (to_end e from_in f);
              stopped =
                  λ f.
                  let (early, five) = stop (to_stop e from_in f) in
                  (five ∙ sym (column_line_number w h picture scratch c (omega arith) ∙ F.stops early), omega arith);
              column_words =
                  λ x y m n a.
                  subst (ColumnWord h (Bored w picture x) (away y)) (sym (Z.cells_kept (cell w x y) (cell_in m n)))
                  (S.words x y (in_band m a.0) a.1 n);
              row_words = λ x y m n a. absurd (omega (arith, F.to_in));
              other_columns =
                  λ x y m n out. Z.cells_kept (cell w x y) (cell_in m n) ∙ others_stay x y m (λ a b. out (a, b));
              other_rows = λ x y m n out. (refl, refl);
              tail_zero = Z.zero;
              distances_beyond = record { as_long = refl; untouched = refl };
              sites_beyond = record { as_long = refl; untouched = refl };
              scratch_beyond = beyond_both (beyond_more {n = w * h} (omega arith) swept_beyond) Z.beyond;
            }

  -- a call that goes on to the rows, after the last column
  module _ {kind : ℕ} {d d' s s' after : List ℕ} {number y : ℕ} (far : w < end) (last : b ≤ c) (few : end ≤ w + h)
      (R : RowsEnded kind w h (line - w) (end - w) swept after d d' s s' number y) where
    -- every column is done
    all_columns : c ≡ w
    all_columns = omega (arith, F.to_in)

    pub rows_left : LinesDone w h kind line end picture (buffers d s before) number (w + y) (buffers d' s' after)
    rows_left = record { from_in = from_in; to_in = to_in; zeroed = zeroed }
      where
        from_in : line ≤ w + y
        from_in = omega (arith, R.from_in)

        to_in : w + y ≤ end
        to_in = omega (arith, R.to_in)

        -- the rows among the lines, by their numbers
        row_among : {k : ℕ} → Among line (w + y) (w + k) → Among (line - w) y k
        row_among a = (omega arith, omega arith)

        among_row : {k : ℕ} → Among (line - w) y k → Among line (w + y) (w + k)
        among_row a = (omega arith, omega arith)

        -- a line after the columns is that of its row
        row_of : (k : ℕ) → (k < w → ⊥) → w + (k - w) ≡ k
        row_of k m = omega arith

        row_in : (k : ℕ) → w + k < w + y → k < h
        row_in k m = omega (arith, to_in)

        under : {x : ℕ} → x < w → x < w + y
        under m = omega arith

        whole : w + y ≡ end → y ≡ end - w
        whole f = omega arith

        early : w + y < end → (y < end - w) × (y < h)
        early f = (omega arith, omega arith)

        zeroed : (budget : ℕ) (scratch : List ℕ) → end ≡ line + allowed w h line budget → TailZeroed w h after scratch
            → SliceAfter w h kind line budget picture (buffers d s before) number (w + y - line) (w + y)
            (buffers d' s' scratch)
        zeroed budget scratch e Z =
            record {
              at_most = not_more e from_in to_in;
              next_is = omega (arith, from_in);
              none_stops =
                  λ k a.
                  by_cases (dec_lt k w) (λ m. columns_pass scratch k m a.0 (rw all_columns m))
                  (λ m. subst (λ j. Among line (w + y) j → line_number w h picture scratch j ≡ 0) (row_of k m)
                  (λ b. row_number (k - w) (row_in (k - w) b.1) ∙ R.done.none_stops (k - w) (row_among b)) a);
              all_finished = λ f. R.all_done (whole (to_end e from_in f));
              stopped =
                  λ f.
                  let (left, inside) = early (to_stop e from_in f) in
                  let (is, some) = R.stopped left in
                  (is ∙ sym (row_number y inside), some);
              column_words =
                  λ x k m n a.
                  subst (ColumnWord h (Bored w picture x) (away k)) (sym (same x k m n))
                  (S.words x k (in_band m a.0) (rw all_columns m) n);
              row_words =
                  λ x k m n a.
                  row_word_same (λ i o. sym (same i k o n)) (λ i o p. ap (away k) (sym (same i k o n)))
                  (R.done.words x k m (row_among a));
              other_columns =
                  λ x k m n out.
                  same x k m n ∙ others_stay x k m (λ a b. out (a, under m));
              other_rows =
                  λ x k m n out.
                  let outside : Among (line - w) y k → ⊥ = λ a. out (among_row a) in
                  (R.done.distances_written.others x k m n outside, R.done.sites_written.others x k m n outside);
              tail_zero = Z.zero;
              distances_beyond = R.done.distances_written.beyond;
              sites_beyond = R.done.sites_written.beyond;
              scratch_beyond =
                  beyond_both (beyond_both (beyond_more {n = w * h} (omega arith) swept_beyond)
                  (beyond_more {n = w * h + w + w} (omega arith) R.done.scratch_beyond)) Z.beyond;
            }
          where
            -- the cells have the words that the sweep left
            same : (x k : ℕ) → x < w → k < h → word_at w scratch x k ≡ word_at w swept x k
            same x k m n = Z.cells_kept (cell w x k) (cell_in m n) ∙ R.done.cells_kept (cell w x k) (cell_in m n)

            -- so a row has the number that it had
            row_number : (k : ℕ) → k < h → line_number w h picture scratch (w + k) ≡ answer (row_rows w h swept k)
            row_number k n =
                row_line_number w h picture scratch k ∙ row_number_same w h scratch swept k (λ x m. same x k m n)

-- the words after the cells' words, up to `words`, come back set to zero
pub tail_zeroed : {w h cells words : ℕ} (scratch zeros : List ℕ) → cells ≡ w * h → words ≡ scratch_words w h
    → words ≤ length scratch → length zeros ≡ length (mid_of cells (words - cells) scratch)
    → ((k : ℕ) → k < length (mid_of cells (words - cells) scratch) → get_or zeros k 0 ≡ 0)
    → TailZeroed w h scratch (put_mid cells (words - cells) scratch zeros)
tail_zeroed {cells = cells} {words} scratch zeros before to room long zero =
    let part : length (mid_of cells (words - cells) scratch) ≡ words - cells =
    part_length {a = cells} {e = words} scratch (omega arith) room in
    record {
      cells_kept = λ k l. put_before {a = cells} (words - cells) scratch zeros (omega arith) (omega arith);
      zero =
          λ k l m.
          let at : cells + (k - cells) ≡ k = omega arith in
          subst (λ j. get_or (put_mid cells (words - cells) scratch zeros) j 0 ≡ 0) at
          (put_inside {a = cells} (words - cells) scratch zeros (omega arith) (omega arith) ∙ zero (k - cells) (omega arith));
      beyond =
          subst (λ n. Beyond n scratch (put_mid cells (words - cells) scratch zeros)) to
          (record {
            as_long = same_len_mid cells (words - cells) scratch zeros long;
            untouched = drop_put cells words scratch zeros (omega arith) room (long ∙ part);
          });
    }
