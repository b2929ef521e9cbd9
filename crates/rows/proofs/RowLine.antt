-- From the words of a row to its map. A marked column stands at the line limit, which is above the height of every column
-- that names a row; so where some column names one, no marked column wins, and the winner among all columns is the least
-- winner among those that name a row. Assumes nothing.
use mathlib.Core.Path.{◌≡◌, refl, sym, ◌∙◌, ap, subst}
use mathlib.Core.Logic.{◌≢◌, inl, inr, by_cases}
use mathlib.Core.List.{List}
use Prim.Native.Nat.{ℕ, zero, suc, ◌+◌, ◌-◌, ◌*◌, ◌^◌, ◌≤◌, ◌<◌}
use native.Mathlib.Nat.{lt_of_le_of_lt, mul-le-mul, le-pred_of_lt}
use native.Mathlib.Decide.{ℕ_discrete}
use native.Mathlib.Omega.{arith}
use borrow.Author.Tests.{eq-eqb, ne_eqb}
use lib.ListN.{length, get_or, take, drop}
use borrow.Rule.Slice.PartMut.{put_mid, drop_put, same_len_mid}
use lib.Seq.{ext_get_or}
use Rattle.rules.specs.Limits.{side_limit, mark, line_limit, lift_limit}
use Rattle.rules.specs.Board.{cell, away}
use Rattle.rules.specs.Measures.{measure}
use Rattle.rules.proofs.Measures.{lawful, has_parts}
use Rattle.rules.proofs.Columns.{row_word_same}
use Rattle.rules.proofs.Parts.{part_length, part_at, put_before}
use Rattle.rules.specs.Answers.{kind_number}
use Rattle.rules.specs.declared.kind.LineKind.{LineKind}
use Rattle.gauge.specs.Line.{measured, Line, Wins, height_at}
use Rattle.gauge.proofs.Places.{apart_below}
use Rattle.rows.specs.Row.{Named, value_of, Filled, Winners, Heights, Chosen, Sites, Believed, LineRead, TailUsed, LineOut, RowMade}

-- the value of a marked column, and of one that names a row
pub marked_value : (kind : LineKind) (y : ℕ) {word : ℕ} → word ≡ mark → value_of kind y word ≡ line_limit
marked_value kind y {word} e = rw (eq-eqb word mark e)

pub named_value : (kind : LineKind) (y : ℕ) {word : ℕ} → word ≢ mark → value_of kind y word ≡ (measured kind).lift (away y word)
named_value kind y {word} n = rw (ne_eqb word mark n)

-- a word that is not the mark names a row
row_named : {h word : ℕ} → Named h word → word ≢ mark → word < h
row_named (inl l) n = l
row_named (inr e) n = absurd (n e)

-- a square of a small number is small
square_small : {n : ℕ} → n < side_limit → n * n < side_limit * side_limit
square_small h = let m = mul-le-mul (le-pred_of_lt h) (le-pred_of_lt h) in omega (arith, m)

-- small differences lift to small values
pub lift_small : (kind : ℕ) {dy : ℕ} → dy < side_limit → (measure kind).lift dy < lift_limit
lift_small zero h = square_small h
lift_small (suc zero) h = omega arith
lift_small (suc (suc k)) h = omega arith

-- and combine to values that are not much greater
pub combine_small : (kind v : ℕ) {dx : ℕ} → dx < side_limit → (measure kind).combine dx v < lift_limit + (v + 1)
combine_small zero v h = omega (arith, square_small h)
combine_small (suc zero) v h = omega arith
combine_small (suc (suc k)) v h = omega arith

-- the part of the scratch that holds the row's words
abbrev pub words_part : ℕ → ℕ → List ℕ → List ℕ
words_part at w scratch = take (at + w - at) (drop at scratch)

module _ {at tail w : ℕ} {scratch : List ℕ} (B : Believed at tail scratch w) where
  pub words_length : length (words_part at w scratch) ≡ w
  words_length = part_length {e = at + w} scratch (omega arith) (omega (arith, B.before_tail, B.room)) ∙ omega arith

  -- its words are the row's
  pub words_at : (i : ℕ) → i < w → get_or (words_part at w scratch) i 0 ≡ get_or scratch (at + i) 0
  words_at i h = part_at at (at + w) scratch i (omega arith)

  pub words_named : (i : ℕ) → i < length (words_part at w scratch) → Named side_limit (get_or (words_part at w scratch) i 0)
  words_named i h =
      subst (Named side_limit) (sym (words_at i (omega (arith, words_length)))) (B.named i (omega (arith, words_length)))

  -- the part of the scratch that the engine uses
  pub tail_length : length (take (tail + w + w - tail) (drop tail scratch)) ≡ w + w
  tail_length = part_length {e = tail + w + w} scratch (omega arith) B.room ∙ omega arith

  -- the words stay while the tail is used
  pub words_stay : (k : ℕ) (part : List ℕ) → length (put_mid tail k scratch part) ≡ length scratch
      → words_part at w (put_mid tail k scratch part) ≡ words_part at w scratch
  words_stay k part e =
      let long : length (take (at + w - at) (drop at (put_mid tail k scratch part))) ≡ at + w - at =
      part_length {e = at + w} (put_mid tail k scratch part) (omega arith) (omega (arith, B.before_tail, B.room)) in
      ext_get_or 0 _ _ (long ∙ sym (part_length {e = at + w} scratch (omega arith) (omega (arith, B.before_tail, B.room))))
      (λ i h.
      let l : i < at + w - at = omega arith in
      part_at at (at + w) (put_mid tail k scratch part) i l
      ∙ put_before {a = tail} k scratch part (omega (arith, B.room)) (omega (arith, B.before_tail))
      ∙ sym (part_at at (at + w) scratch i l))

  -- and nothing but the tail is changed
  tail_used : (part : List ℕ) → length part ≡ length (take (tail + w + w - tail) (drop tail scratch))
      → TailUsed tail w scratch (put_mid tail (tail + w + w - tail) scratch part)
  tail_used part long =
      record {
        kept = λ k h. put_before (tail + w + w - tail) scratch part (omega (arith, B.room)) h;
        beyond = record {
          as_long = same_len_mid tail (tail + w + w - tail) scratch part long;
          untouched = drop_put tail (tail + w + w) scratch part (omega arith) B.room
              (long ∙ part_length {e = tail + w + w} scratch (omega arith) B.room);
        };
      }

-- the values of a line that can be read are a line
pub a_line : {at tail : ℕ} {scratch values : List ℕ} → LineRead at tail scratch values → Line values
a_line {at} {scratch = scratch} L =
    record {
      from = L.believed.from;
      to = L.believed.to;
      values_to =
          λ i h.
          by_cases (ℕ_discrete (get_or scratch (at + i) 0) mark) (λ e. omega (arith, L.marked i h e))
          (λ n. omega (arith, L.small i h n));
    }

module _ (kind : LineKind) {at tail : ℕ} {scratch values : List ℕ} (L : LineRead at tail scratch values) where
  -- the height of a column that names a row is below that of every marked one, and a u32 word
  true_height : (i x : ℕ) → i < length values → x < length values → get_or scratch (at + i) 0 ≢ mark
      → (height_at kind values i x < line_limit) × (height_at kind values i x < 2 ^ 32)
  unfolding height_at
  true_height i x h l n =
      let near : away x i < side_limit = lt_of_le_of_lt (apart_below x i) (omega (arith, L.believed.to)) in
      let s = combine_small (kind_number kind) (get_or values i 0) {dx = away x i} near in
      let v = L.small i h n in
      (omega arith, omega arith)

  marked_height : (i x : ℕ) → i < length values → get_or scratch (at + i) 0 ≡ mark → line_limit ≤ height_at kind values i x
  unfolding height_at
  marked_height i x h e =
      subst (λ b. b ≤ height_at kind values i x) (L.marked i h e)
      ((lawful (kind_number kind) (has_parts kind)).stands (away x i) (get_or values i 0))

  -- no marked column wins
  winner_named : {x i : ℕ} → x < length values → Wins (height_at kind values) (length values) x i
      → get_or scratch (at + i) 0 ≢ mark
  winner_named {x} {i} l w e =
      let B = L.believed in
      let low : height_at kind values i x ≤ height_at kind values B.i₀ x = w.lowest B.i₀ B.i₀_in in
      omega (arith, marked_height i x w.column_in e, true_height B.i₀ x B.i₀_in l B.i₀_named)

  module _ {winners : List ℕ}
      (W : (x : ℕ) → x < length values → Wins (height_at kind values) (length values) x (get_or winners x 0)) where
    -- what the map words ask of the winners
    pub winners_fit : Winners kind values winners
    winners_fit =
        record {
          column_in = λ x h. (W x h).column_in;
          small = λ x h. (true_height _ x (W x h).column_in h (winner_named h (W x h))).1;
        }

    -- what the sites ask of them
    pub winners_chosen : length winners ≡ length values → Chosen (words_part at (length values) scratch) winners
    winners_chosen long =
        let w = words_length L.believed in
        record {
          as_long = long ∙ sym w;
          to = omega (arith, L.believed.to);
          column_in = λ x h. omega (arith, (W x (omega arith)).column_in);
          named = λ x h.
              let c = (W x (omega arith)).column_in in
              rw (words_at L.believed (get_or winners x 0) c)
              (row_named (L.believed.named _ c) (winner_named (omega arith) (W x (omega arith))));
        }

    -- what is written is the row's map
    pub line_out : {distances sites : List ℕ} (part : List ℕ) → Heights kind values winners distances
        → Sites (words_part at (length values) scratch) winners sites
        → length part ≡ length (take (tail + length values + length values - tail) (drop tail scratch))
        → let k = tail + length values + length values - tail in
        LineOut kind at tail scratch values (put_mid tail k scratch part) distances sites
    unfolding height_at
    line_out part H S long =
        record {
          row = λ x h.
              let i = get_or winners x 0 in
              let w = W x h in
              let n = words_length L.believed in
              record {
                i = i;
                column_in = w.column_in;
                unmarked = winner_named h w;
                word_is = H.word x h;
                site_is = S.site x (omega arith) ∙ ap (λ m. cell m i (get_or (words_part at (length values) scratch) i 0)) n
                    ∙ ap (cell (length values) i) (words_at L.believed i w.column_in);
                least = λ i' l m. omega (arith, H.word x h, w.lowest i' l);
                least_column = λ i' l m e. w.least_column i' l (e ∙ H.word x h);
              };
          used = tail_used L.believed part long;
        }

module _ {kind : LineKind} {y at tail : ℕ} {scratch values : List ℕ}
    (B : Believed at tail scratch (length values)) (row_in : y < side_limit)
    (F : Filled kind y (words_part at (length values) scratch) values) where
  -- what fill has put for column i
  filled : (i : ℕ) → i < length values → get_or values i 0 ≡ value_of kind y (get_or scratch (at + i) 0)
  filled i h = F.each i (omega (arith, words_length B)) ∙ ap (value_of kind y) (words_at B i h)

  -- the values that fill puts are a line that can be read
  pub line_read : LineRead at tail scratch values
  line_read =
      record {
        believed = B;
        small = λ i h n.
            let word = get_or scratch (at + i) 0 in
            let l = row_named (B.named i h) n in
            let s = lift_small (kind_number kind) (lt_of_le_of_lt (apart_below y word) (omega arith)) in
            omega (arith, s, filled i h ∙ named_value kind y n);
        marked = λ i h e. filled i h ∙ marked_value kind y e;
      }

  -- and what comes of it is the row of a picture
  pub row_made : {after distances sites : List ℕ} → LineOut kind at tail scratch values after distances sites
      → RowMade kind y at tail (length values) scratch after distances sites
  row_made O =
      record {
        row = λ x h.
            row_word_same (λ i l. refl) (λ i l n. filled i l ∙ named_value kind y n) (O.row x h);
        used = O.used;
      }
