-- The rows of document 02, E1: what the start of a slice tells, and what the number of a line tells. A column's number is 5
-- exactly where one of its bytes is bad, and else 0; a row's is 13 where a word of it names no row of the board and is not
-- the mark, 6 where all its words are marks, and else 0. Each goes by the laws of a test over the numbers below n: it holds
-- where one of them passes, and fails where none does. Assumes nothing.
use mathlib.Core.Path.{◌≡◌, refl, sym, ap, ◌∙◌, subst}
use mathlib.Core.Logic.{◌≢◌, by_cases}
use mathlib.Core.Bool.{Bool, true, false, not, ◌||◌, true≢false, or-true}
use mathlib.Core.List.{List, [], ◌∷◌}
use Prim.Native.Nat.{ℕ, zero, suc, ◌+◌, ◌-◌, ◌≤◌, ◌<◌}
use native.Mathlib.Decide.{dec_lt, ℕ_discrete}
use native.Mathlib.Omega.{arith}
use lib.Dec.{T, ltb, eqb, lit<}
use lib.Ieee.Bits.{is_true}
use lib.ListN.{get_or}
use borrow.Author.Tests.{ltb-false, eqb-false, not-true, not-false, le-ltb, lt-ltb, eq-eqb, ne_eqb}
use Rattle.rules.specs.Limits.{mark, slice_kind_limit}
use Rattle.rules.specs.Board.{cell}
use Rattle.rules.specs.Measures.{HasParts}
use Rattle.rules.specs.Accepted.{SliceAccepted}
use Rattle.rules.specs.Refusals.{answer, some, bad_byte, bad_line, bad_word, slice_rows}
use Rattle.rules.specs.Slices.{word_at, column_rows, row_rows, line_number}
use Rattle.rules.proofs.Knob.{some_means}
use Rattle.rules.proofs.Refusals.{numbers, RowByRow, row_by_row, holds_unless, or_first, or_second, or_false}
use Rattle.rules.proofs.Refusals.{sides_passes, kind_passes, buffers_passes, byte_passes, byte_good}

-- where every number below n fails a test, none passes it
pub some_none : (n : ℕ) (p : ℕ → Bool) → ((k : ℕ) → k < n → p k ≡ false) → some n p ≡ false
some_none zero p all = refl
some_none (suc n) p all = or_false (p n) (some n p) (all n (omega arith)) (some_none n p (λ k l. all k (omega arith)))

-- where none passes it, each fails
pub some_fails : (n : ℕ) (p : ℕ → Bool) → some n p ≡ false → (k : ℕ) → k < n → p k ≡ false
some_fails zero p e k l = absurd (omega arith)
some_fails (suc n) p e k l =
    by_cases (ℕ_discrete k n) (λ same. subst (λ (j : ℕ). p j ≡ false) (sym same) (or_first (p n) (some n p) e))
    (λ other. some_fails n p (or_second (p n) (some n p) e) k (omega arith))

-- where one passes it, some does
pub some_here : (n : ℕ) (p : ℕ → Bool) (k : ℕ) → k < n → p k ≡ true → some n p ≡ true
some_here n p k l e = holds_unless (some n p) (λ none. true≢false (sym e ∙ some_fails n p none k l))

-- where some does, there is one
pub some_one : (n : ℕ) (p : ℕ → Bool) → some n p ≡ true → (k : ℕ) × (k < n) × (p k ≡ true)
some_one n p e = let (k, l, t) = some_means n p (subst T (sym e) tt) in (k, l, is_true (p k) t)

-- row 12 does not hold: the line is one of the board's, or the end of them
pub line_passes : (w h line : ℕ) → bad_line w h line ≡ false → line ≤ w + h
unfolding bad_line
line_passes w h line e = ltb-false (w + h) line e

-- of such a line row 12 does not hold
pub line_good : (w h line : ℕ) → line ≤ w + h → bad_line w h line ≡ false
unfolding bad_line
line_good w h line l = le-ltb (w + h) line l

-- a word below h, and the mark, are not bad
pub word_good : (h word : ℕ) → (word ≢ mark → word < h) → bad_word h word ≡ false
unfolding bad_word
word_good h word named =
    by_cases (ℕ_discrete word mark) (λ e. rw (eq-eqb word mark e) (rw (or-true (ltb word h))))
    (λ n. rw (lt-ltb word h (named n)))

-- a word that is not bad is below h, or the mark
pub word_passes : (h word : ℕ) → bad_word h word ≡ false → word ≢ mark → word < h
unfolding bad_word
word_passes h word e n =
    by_cases (dec_lt word h) (λ l. l)
    (λ far. let bad : not (ltb word h || eqb word mark) ≡ true = rw (le-ltb word h (omega arith), ne_eqb word mark n) in
    absurd (true≢false (sym bad ∙ e)))

-- any other is bad
pub word_bad : (h word : ℕ) → h ≤ word → word ≢ mark → bad_word h word ≡ true
word_bad h word l n = holds_unless (bad_word h word) (λ e. omega (arith, word_passes h word e n))

module _ (w h kind line picture distances sites scratch : ℕ) where
  -- "At the start, changing nothing: 1, 2 (kind above 2, also in later editions), 4, and 12"
  pub slice_order : numbers (slice_rows w h kind line picture distances sites scratch) ≡ 1 ∷ 2 ∷ 4 ∷ 12 ∷ []
  slice_order = refl

  -- each answer names its row
  pub slice_row_by_row : RowByRow (slice_rows w h kind line picture distances sites scratch)
  slice_row_by_row = row_by_row (slice_rows w h kind line picture distances sites scratch) refl

  -- and 0 tells the facts of all four
  pub slice_accepted : answer (slice_rows w h kind line picture distances sites scratch) ≡ 0
      → SliceAccepted w h kind line picture distances sites scratch
  slice_accepted e =
      let passed = slice_row_by_row.none.0 e in
      record {
        sides = sides_passes w h (passed 0 (lit< tt));
        kind_in = kind_passes slice_kind_limit kind (passed 1 (lit< tt));
        lent = buffers_passes w h picture distances sites scratch (passed 2 (lit< tt));
        line_in = line_passes w h line (passed 3 (lit< tt));
      }

-- the kinds of a slice have parts
pub slice_parts : {kind : ℕ} → kind ≤ slice_kind_limit → HasParts kind
slice_parts l = record { kind_in = omega arith; no_chamfer = omega arith }

module _ (w h : ℕ) (picture : List ℕ) (x : ℕ) where
  -- a column without a bad byte can be done
  pub column_0 : ((y : ℕ) → y < h → get_or picture (cell w x y) 0 ≤ 1) → answer (column_rows w h picture x) ≡ 0
  column_0 good = rw (some_none h (λ y. bad_byte (get_or picture (cell w x y) 0)) (λ y l. byte_good _ (good y l)))

  -- a column with one stops with 5
  pub column_5 : (y : ℕ) → y < h → 1 < get_or picture (cell w x y) 0 → answer (column_rows w h picture x) ≡ 5
  column_5 y l far =
      rw (some_here h (λ y. bad_byte (get_or picture (cell w x y) 0)) y l
      (holds_unless _ (λ e. omega (arith, byte_passes (get_or picture (cell w x y) 0) e))))

  -- a column that can be done has no bad byte
  pub column_passes : answer (column_rows w h picture x) ≡ 0 → (y : ℕ) → y < h → get_or picture (cell w x y) 0 ≤ 1
  column_passes e y l =
      by_cases (dec_lt 1 (get_or picture (cell w x y) 0)) (λ far. absurd (omega (arith, column_5 y l far, e))) (λ near. omega arith)

module _ (w h : ℕ) (scratch : List ℕ) (y : ℕ) where
  -- a row whose words name rows of the board or are marks, and one of which is no mark, can be done
  pub row_0 : ((x : ℕ) → x < w → word_at w scratch x y ≢ mark → word_at w scratch x y < h)
      → (x : ℕ) × (x < w) × (word_at w scratch x y ≢ mark) → answer (row_rows w h scratch y) ≡ 0
  row_0 named (x, l, n) =
      rw (
        some_none w (λ x. bad_word h (word_at w scratch x y)) (λ x l. word_good h _ (named x l)),
        some_here w (λ x. not (eqb (word_at w scratch x y) mark)) x l (rw (ne_eqb (word_at w scratch x y) mark n)),
      )

  -- a row of marks stops with 6
  pub row_6 : ((x : ℕ) → x < w → word_at w scratch x y ≡ mark) → answer (row_rows w h scratch y) ≡ 6
  row_6 marks =
      rw (
        some_none w (λ x. bad_word h (word_at w scratch x y)) (λ x l. word_good h _ (λ n. absurd (n (marks x l)))),
        some_none w (λ x. not (eqb (word_at w scratch x y) mark)) (λ x l. rw (eq-eqb (word_at w scratch x y) mark (marks x l))),
      )

  -- a row with a word that names no row of the board and is no mark stops with 13
  pub row_13 : (x : ℕ) → x < w → h ≤ word_at w scratch x y → word_at w scratch x y ≢ mark
      → answer (row_rows w h scratch y) ≡ 13
  row_13 x l far n = rw (some_here w (λ x. bad_word h (word_at w scratch x y)) x l (word_bad h _ far n))

  -- a row that can be done has words that name rows of the board or are marks, and one that is no mark
  pub row_passes : answer (row_rows w h scratch y) ≡ 0
      → ((x : ℕ) → x < w → word_at w scratch x y ≢ mark → word_at w scratch x y < h)
      × ((x : ℕ) × (x < w) × (word_at w scratch x y ≢ mark))
  row_passes e =
      let passed = (row_by_row (row_rows w h scratch y) refl).none.0 e in
      let (x, l, other) = some_one w (λ x. not (eqb (word_at w scratch x y) mark)) (not-false _ (passed 1 (lit< tt))) in (
        λ x l. word_passes h (word_at w scratch x y) (some_fails w (λ x. bad_word h (word_at w scratch x y)) (passed 0 (lit< tt)) x l),
        (x, l, eqb-false (word_at w scratch x y) mark (not-true _ other)),
      )

-- a test of the numbers below n depends on these alone
pub some_same : (n : ℕ) (p q : ℕ → Bool) → ((k : ℕ) → k < n → p k ≡ q k) → some n p ≡ some n q
some_same zero p q same = refl
some_same (suc n) p q same = rw (same n (omega arith), some_same n p q (λ k l. same k (omega arith))) refl

-- of a column line the number is that of its column
pub column_line_number : (w h : ℕ) (picture scratch : List ℕ) (k : ℕ) → k < w
    → line_number w h picture scratch k ≡ answer (column_rows w h picture k)
column_line_number w h picture scratch k l = rw (lt-ltb k w l) refl

-- of a row line it is that of its row
pub row_line_number : (w h : ℕ) (picture scratch : List ℕ) (y : ℕ)
    → line_number w h picture scratch (w + y) ≡ answer (row_rows w h scratch y)
row_line_number w h picture scratch y =
    let e : w + y - w ≡ y = omega arith in
    rw (le-ltb (w + y) w (omega arith), e) refl

-- scratches with the same words in a row have the same number there
pub row_number_same : (w h : ℕ) (s s' : List ℕ) (y : ℕ) → ((x : ℕ) → x < w → word_at w s x y ≡ word_at w s' x y)
    → answer (row_rows w h s y) ≡ answer (row_rows w h s' y)
row_number_same w h s s' y same =
    let bad : some w (λ x. bad_word h (word_at w s x y)) ≡ some w (λ x. bad_word h (word_at w s' x y)) =
    some_same w _ _ (λ x l. ap (bad_word h) (same x l)) in
    let marked : some w (λ x. not (eqb (word_at w s x y) mark)) ≡ some w (λ x. not (eqb (word_at w s' x y) mark)) =
    some_same w _ _ (λ x l. ap (λ (word : ℕ). not (eqb word mark)) (same x l)) in
    rw (bad, marked) refl

-- scratches with the same words in a row line's row have the same number for the line, and for a column line any have
pub line_number_same : (w h : ℕ) (picture s s' : List ℕ) (k : ℕ)
    → ((x y : ℕ) → x < w → w + y ≡ k → word_at w s x y ≡ word_at w s' x y)
    → line_number w h picture s k ≡ line_number w h picture s' k
line_number_same w h picture s s' k same =
    by_cases (dec_lt k w)
    (λ l. column_line_number w h picture s k l ∙ sym (column_line_number w h picture s' k l))
    (λ l.
    let y : ℕ = k - w in
    let e : w + y ≡ k = omega arith in
    rw (← e) (row_line_number w h picture s y ∙ row_number_same w h s s' y (λ x i. same x y i e)
    ∙ sym (row_line_number w h picture s' y)))
