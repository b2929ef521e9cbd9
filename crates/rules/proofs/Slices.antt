-- Work in slices, document 02's E1: what its sentences come to.
--
-- A row line goes by the kind's distance to the cell that a column's word names. A kind that has parts is its measure, so
-- that is a row line of the measure, and the step from columns to rows is open to it.
--
-- One input allows one answer and one content of each buffer. Suppose that of two calls the second finishes more lines.
-- Then the line at which the first stops is one that the second finishes, so that its number is not 0 in the first and 0
-- in the second. But it is the same: that of a column is the picture's alone, and the words of a row are in both calls
-- those of the same finished columns, or as they were. So the calls finish the same lines, and then every word is one: a
-- finished line has one word at each cell, and all else is as it was. An answer by cases is fixed as well: no refusal has
-- the number 0, and each has its own. Nor does a call that worked name the mark as its next line, which is no line of a
-- board.
--
-- A chain of calls from line 0 keeps this: of the lines before the one that it has reached, each column has its words, each
-- row has what it makes of the words that stand in the scratch, and none of them stops. A call keeps it because it works on
-- lines that come later: the words of a column that is finished stay, and where a row is finished all columns are, so the
-- words that it believed stay as well. Behind the last line every column has its words and every row is made of them, and
-- the step from columns to rows says that this is the map. A call that makes it in one go accepts the picture: each column
-- passed, so every byte is good, and the first row passed, so some column has a word that names a bore. The other way round,
-- a picture that is accepted stops no call of such a chain.
--
-- Assumes nothing.
use mathlib.Core.Path.{◌≡◌, refl, sym, ap, ◌∙◌, subst}
use mathlib.Core.Logic.Dec
use mathlib.Core.Logic.{◌≢◌, by_cases}
use mathlib.Core.List.{List, [], ◌∷◌}
use Prim.Native.Nat.{ℕ, ◌+◌, ◌-◌, ◌*◌, ◌≤◌, ◌<◌}
use native.Mathlib.Decide.{dec_le, dec_lt, ℕ_discrete}
use native.Mathlib.Omega.{arith}
use lib.ListN.{length, get_or}
use Rattle.rules.specs.declared.refusal.Refusal.{Refusal}
use Rattle.rules.specs.declared.answers.Slice.{Slice}
use Rattle.std.specs.Prelude.{Result}
use Rattle.rules.specs.Limits.{mark, kind_limit}
use Rattle.rules.specs.Board.{cell, away, Bored}
use Rattle.rules.specs.Measures.{distance, measure, HasParts}
use Rattle.rules.specs.Columns.{ColumnWord, RowWord}
use Rattle.rules.specs.Tie.{MapWord, MapSite}
use Rattle.rules.specs.Refusals.{some, answer, scratch_words, picture_rows}
use Rattle.rules.specs.Accepted.{Bytes, Somewhere, PictureAccepted, SliceAccepted}
use Rattle.rules.specs.Answers.{number_of, slice_number, slice_finished, slice_next}
use Rattle.rules.specs.Calls.{Buffers, Beyond, PictureAfter, PictureCall}
use Rattle.rules.specs.Slices.{word_at, line_number, allowed, Among, BelievedWord, SliceAfter}
use Rattle.rules.specs.Slices.{SliceCall, Chain}
use Rattle.rules.proofs.Parts.{beyond_both}
use Rattle.rules.proofs.Board.{cell_in}
use Rattle.rules.proofs.TieRule.{least_unique, map_site_unique}
use Rattle.rules.proofs.Columns.{parts, column_word_unique, row_word_unique, row_word_by, row_word_same, picture_step}
use Rattle.rules.proofs.Refusals.{sides_good, kind_good, weights_good, buffers_good, bytes_good, bore_good}
use Rattle.rules.proofs.SliceRows.{slice_accepted, slice_parts, column_0, column_passes, row_0, row_passes}
use Rattle.rules.proofs.SliceRows.{column_line_number, row_line_number, line_number_same}
use Rattle.rules.proofs.Pinned.{agreed, settled, each_cell, lists_pinned, answer_pinned, valued, stop_pinned}

module _ {kind w x d site : ℕ} {words : ℕ → ℕ} (y : ℕ) (p : HasParts kind) where
  -- a row line by the parts of a kind is one by its distances
  pub row_by_parts : RowWord w (measure kind).combine words (λ i. (measure kind).lift (away y (words i))) x d site
      → RowWord w (distance kind 0 0) words (λ i. away y (words i)) x d site
  row_by_parts r = row_word_by (λ i l. refl) (λ i l n. sym (parts kind 0 0 (away x i) (away y (words i)) p)) r

  -- and the other way round
  pub row_of_parts : RowWord w (distance kind 0 0) words (λ i. away y (words i)) x d site
      → RowWord w (measure kind).combine words (λ i. (measure kind).lift (away y (words i))) x d site
  row_of_parts r = row_word_by (λ i l. refl) (λ i l n. parts kind 0 0 (away x i) (away y (words i)) p) r

-- line k is one of those from `line` up to `next`, or not
among? : (line next k : ℕ) → Dec (Among line next k)
among? line next k = Dec.and (dec_le line k) (dec_lt k next)

-- buffers have the same distance and the same site at the cell with the number k
abbrev pub SameAt : Buffers → Buffers → ℕ → Type 0
SameAt a b k = (get_or a.distances k 0 ≡ get_or b.distances k 0) × (get_or a.sites k 0 ≡ get_or b.sites k 0)

module _ {w h kind line budget : ℕ} {picture : List ℕ} {before : Buffers} where
  -- where two calls finish a column or neither does, its words are the same
  same_words : {number number' finished finished' next next' : ℕ} {after after' : Buffers}
      → SliceAfter w h kind line budget picture before number finished next after
      → SliceAfter w h kind line budget picture before number' finished' next' after'
      → (x y : ℕ) → x < w → y < h → (x < next → x < next') → (x < next' → x < next)
      → word_at w after.scratch x y ≡ word_at w after'.scratch x y
  same_words {next = next} {next' = next'} p q x y l m to from =
      by_cases (among? line next x)
      (λ a. column_word_unique (p.column_words x y l m a) (q.column_words x y l m (a.0, to a.1)))
      (λ a. p.other_columns x y l m a ∙ sym (q.other_columns x y l m (λ b. a (b.0, from b.1))))

  -- no call stops at a line that another finishes
  not_fewer : {number number' finished finished' next next' : ℕ} {after after' : Buffers}
      → SliceAfter w h kind line budget picture before number finished next after
      → SliceAfter w h kind line budget picture before number' finished' next' after'
      → finished < finished' → ⊥
  not_fewer {next = next} {after = after} {after' = after'} p q l =
      let (is, some) = p.stopped (omega (arith, q.at_most)) in
      let done : line_number w h picture after'.scratch next ≡ 0 =
      q.none_stops next (omega (arith, p.next_is), omega (arith, p.next_is, q.next_is)) in
      let same : line_number w h picture after.scratch next ≡ line_number w h picture after'.scratch next =
      line_number_same w h picture after.scratch after'.scratch next
      (λ x y i e. same_words p q x y i (omega (arith, p.next_is, q.at_most))
      (λ a. omega (arith, p.next_is, q.next_is)) (λ a. omega arith)) in
      some (is ∙ same ∙ done)

  -- a call whose start refuses nothing answers one number, finishes one number of lines, names one next line, and leaves
  -- the buffers in one way
  pub slice_after_pinned : {number number' finished finished' next next' : ℕ} {after after' : Buffers}
      → SliceAfter w h kind line budget picture before number finished next after
      → SliceAfter w h kind line budget picture before number' finished' next' after'
      → (number ≡ number') × (finished ≡ finished') × (next ≡ next') × (after ≡ after')
  slice_after_pinned {number} {number'} {finished} {finished'} {next} {next'} {after} {after'} p q =
      let lines : finished ≡ finished' = omega (arith, not_fewer p q, not_fewer q p) in
      let ends : next ≡ next' = p.next_is ∙ ap (λ (n : ℕ). line + n) lines ∙ sym q.next_is in
      let scratch : after.scratch ≡ after'.scratch =
      lists_pinned p.scratch_beyond q.scratch_beyond (scratch_words_same ends) in
      let rows = each_cell w (SameAt after after') (row_words_same ends scratch) in
      let distances = lists_pinned p.distances_beyond q.distances_beyond (λ k l. (rows k l).0) in
      let sites = lists_pinned p.sites_beyond q.sites_beyond (λ k l. (rows k l).1) in (
        by_cases (dec_lt finished (allowed w h line budget))
            (λ l. (p.stopped l).0 ∙ rw (scratch, ends) refl ∙ sym (q.stopped (omega arith)).0)
            (λ l. p.all_finished (omega (arith, p.at_most)) ∙ sym (q.all_finished (omega (arith, q.at_most)))),
        lines,
        ends,
        λ i. record { distances = distances i; sites = sites i; scratch = scratch i },
      )
    where
      scratch_words_same : next ≡ next' → (k : ℕ) → k < scratch_words w h
          → get_or after.scratch k 0 ≡ get_or after'.scratch k 0
      scratch_words_same e k l =
          by_cases (dec_lt k (w * h))
          (each_cell w (λ (c : ℕ). get_or after.scratch c 0 ≡ get_or after'.scratch c 0)
          (λ x y i j. same_words p q x y i j (λ a. omega arith) (λ a. omega arith)) k)
          (λ far. p.tail_zero k (omega arith) l ∙ sym (q.tail_zero k (omega arith) l))

      row_words_same : next ≡ next' → after.scratch ≡ after'.scratch → (x y : ℕ) → x < w → y < h
          → SameAt after after' (cell w x y)
      row_words_same e s x y l m =
          by_cases (among? line next (w + y))
          (λ a. row_word_unique (p.row_words x y l m a) (rw s (q.row_words x y l m (a.0, omega arith))))
          (λ a.
          let r = p.other_rows x y l m a in
          let r' = q.other_rows x y l m (λ b. a (b.0, omega arith)) in
          (r.0 ∙ sym r'.0, r.1 ∙ sym r'.1))

module _ {w h kind line budget : ℕ} {picture : List ℕ} {before : Buffers} where
  -- what a slice call has whose start refuses nothing
  pub slice_has : {start number finished next : ℕ} {after : Buffers}
      → SliceCall w h kind line budget picture before start number finished next after → start ≡ 0
      → SliceAccepted w h kind line (length picture) (length before.distances) (length before.sites)
      (length before.scratch)
  slice_has c z = slice_accepted w h kind line (length picture) _ _ _ (sym c.answered ∙ z)

  -- its next line is no farther than behind the last
  pub next_in : {number finished next : ℕ} {after : Buffers}
      → SliceAfter w h kind line budget picture before number finished next after → line ≤ w + h → next ≤ w + h
  next_in p l = omega (arith, p.next_is, p.at_most)

  -- a slice call answers one number and leaves the buffers in one way; where its start refuses nothing, the lines finished
  -- and the next line are one too
  pub slice_pinned : {start start' number number' finished finished' next next' : ℕ} {after after' : Buffers}
      → SliceCall w h kind line budget picture before start number finished next after
      → SliceCall w h kind line budget picture before start' number' finished' next' after'
      → (start ≡ start') × (number ≡ number') × (after ≡ after') × (start ≡ 0 → (finished ≡ finished') × (next ≡ next'))
  slice_pinned {start} p q =
      let (same, one) = agreed p q slice_after_pinned in (
        same,
        by_cases (ℕ_discrete start 0) (λ z. (one z).0)
            (λ z. (p.refused z).0 ∙ same ∙ sym (q.refused (λ e. z (same ∙ e))).0),
        settled same (λ z. (p.refused z).1) (λ z. (q.refused z).1) (λ z. (one z).3),
        λ z. ((one z).1, (one z).2),
      )

  -- the mark is no line of a board
  pub next_not_mark : {start number finished : ℕ} {after : Buffers}
      → SliceCall w h kind line budget picture before start number finished mark after → start ≡ 0 → ⊥
  next_not_mark c z = let a = slice_has c z in omega (arith, next_in (c.done z) a.line_in, a.sides)

  -- the sliced entry has one answer, and leaves the buffers in one way
  pub slice_answer_pinned : {after after' : Buffers} (r r' : Result Slice Refusal)
      → SliceCall w h kind line budget picture before (number_of r) (slice_number r) (slice_finished r) (slice_next r)
      after
      → SliceCall w h kind line budget picture before (number_of r') (slice_number r') (slice_finished r') (slice_next r')
      after'
      → (r ≡ r') × (after ≡ after')
  slice_answer_pinned r r' p q =
      let (same, number, buffers, one) = slice_pinned p q in
      let answer = answer_pinned r r' same
      (λ s s' e e'. let (finished, next) = one (ap number_of e) in
      λ i. record {
        stop = stop_pinned s.stop s'.stop (valued slice_number number e e') i;
        finished = valued slice_finished finished e e' i;
        next = valued slice_next next e e' i;
      }) in
      (answer, buffers)

-- a picture call that has what an accepted one has answers 0
picture_answers : {w h kind d1 d2 : ℕ} {picture : List ℕ} {distances sites scratch : ℕ}
    → PictureAccepted w h kind d1 d2 picture distances sites scratch
    → answer (picture_rows w h kind d1 d2 picture distances sites scratch) ≡ 0
picture_answers {w} {h} {kind} {d1} {d2} {picture} {distances} {sites} {scratch} a =
    let (x, y, l, m, bored) = a.bored in
    let inside : cell w x y < length picture = omega (arith, a.lent.picture_is, cell_in l m) in
    rw (
      sides_good w h a.sides,
      kind_good kind_limit kind a.kind_in,
      weights_good kind d1 d2 a.weights,
      buffers_good w h (length picture) distances sites scratch a.lent,
      bytes_good picture a.bytes,
      bore_good picture (cell w x y, inside, bored),
    ) refl

-- where a chain of calls from line 0 stands that has reached a line
pub record Reached (w h kind : ℕ) (picture : List ℕ) (line : ℕ) (b : Buffers) : Type 0 where
  pub columns : (x y : ℕ) → x < w → y < h → x < line → ColumnWord h (Bored w picture x) (away y) (word_at w b.scratch x y)
  pub rows : (x y : ℕ) → x < w → y < h → w + y < line →
      BelievedWord kind w b.scratch x y (get_or b.distances (cell w x y) 0) (get_or b.sites (cell w x y) 0)
  pub passed : (k : ℕ) → k < line → line_number w h picture b.scratch k ≡ 0

module _ {w h kind : ℕ} {picture : List ℕ} where
  -- at line 0 nothing is asked
  pub reached_none : (b : Buffers) → Reached w h kind picture 0 b
  reached_none b =
      record {
        columns = λ x y l m k. absurd (omega arith);
        rows = λ x y l m k. absurd (omega arith);
        passed = λ k l. absurd (omega arith);
      }

  -- a call takes the chain from its line to the next that it names
  pub reached_next : {line budget number finished next : ℕ} {before after : Buffers} → line ≤ w + h
      → SliceAfter w h kind line budget picture before number finished next after → Reached w h kind picture line before
      → Reached w h kind picture next after
  reached_next {line} {next = next} {before = before} {after = after} inside p r =
      record { columns = columns; rows = rows; passed = passed }
    where
      -- behind the columns, their words stay
      kept : (x y : ℕ) → x < w → y < h → w ≤ line → word_at w after.scratch x y ≡ word_at w before.scratch x y
      kept x y l m far = p.other_columns x y l m (λ a. omega arith)

      columns : (x y : ℕ) → x < w → y < h → x < next
          → ColumnWord h (Bored w picture x) (away y) (word_at w after.scratch x y)
      columns x y l m k =
          by_cases (dec_le line x) (λ a. p.column_words x y l m (a, k))
          (λ a. rw (p.other_columns x y l m (λ b. a b.0)) (r.columns x y l m (omega arith)))

      rows : (x y : ℕ) → x < w → y < h → w + y < next
          → BelievedWord kind w after.scratch x y (get_or after.distances (cell w x y) 0)
          (get_or after.sites (cell w x y) 0)
      rows x y l m k =
          by_cases (dec_le line (w + y)) (λ a. p.row_words x y l m (a, k))
          (λ a.
          let same : (i : ℕ) → i < w → word_at w before.scratch i y ≡ word_at w after.scratch i y =
          λ i j. sym (kept i y j m (omega arith)) in
          let (distance, site) = p.other_rows x y l m (λ b. a b.0) in
          rw (distance, site) (row_word_same same (λ i j n. ap (away y) (same i j)) (r.rows x y l m (omega arith))))

      passed : (k : ℕ) → k < next → line_number w h picture after.scratch k ≡ 0
      passed k l =
          by_cases (dec_le line k) (λ a. p.none_stops k (a, l))
          (λ a. line_number_same w h picture after.scratch before.scratch k
          (λ x y i e. kept x y i (omega arith) (omega arith)) ∙ r.passed k (omega arith))

  -- so a chain of calls takes it to its end
  pub chain_reaches : (budgets : List ℕ) {line end : ℕ} {before after : Buffers}
      → Chain w h kind picture budgets line before end after → Reached w h kind picture line before
      → Reached w h kind picture end after
  chain_reaches [] (end, after) r = rw (end, after) r
  chain_reaches (budget ∷ budgets) (finished, next, middle, call, rest) r =
      chain_reaches budgets rest (reached_next (slice_has call refl).line_in (call.done refl) r)

-- A picture that a map call accepts stops no call of a chain: its bytes are good, and where the rows are reached every word
-- is a column's, and that of a bored column is no mark.
module _ {w h kind d1 d2 : ℕ} {picture : List ℕ} {distances sites scratch : ℕ}
    (A : PictureAccepted w h kind d1 d2 picture distances sites scratch) where
  -- no line can stop that a chain has reached
  line_goes : {line : ℕ} {b : Buffers} → Reached w h kind picture line b → line < w + h
      → line_number w h picture b.scratch line ≡ 0
  line_goes {line} {b} r inside =
      by_cases (dec_lt line w)
      (λ l. column_line_number w h picture b.scratch line l ∙ column_0 w h picture line (good line l))
      (λ far.
      let y : ℕ = line - w in
      let e : w + y ≡ line = omega arith in
      let m : y < h = omega arith in
      subst (λ k. line_number w h picture b.scratch k ≡ 0) e
      (row_line_number w h picture b.scratch y ∙ row_0 w h b.scratch y
      (λ x l n. ((r.columns x y l m (omega arith)).named n).row_in) (named y m (omega arith))))
    where
      good : (x : ℕ) → x < w → (y : ℕ) → y < h → get_or picture (cell w x y) 0 ≤ 1
      good x l y m = A.bytes (cell w x y) (omega (arith, A.lent.picture_is, cell_in l m))

      named : (y : ℕ) → y < h → w ≤ line → (x : ℕ) × (x < w) × (word_at w b.scratch x y ≢ mark)
      named y m far =
          let (x, j, l, k, bored) = A.bored in
          (x, l, λ e. (r.columns x y l m (omega arith)).empty e j k bored)

  -- so the next call finishes all that the budget and the rest allow
  pub chain_goes_on : (budgets : List ℕ) (before : Buffers) {line budget number finished next : ℕ} {middle after : Buffers}
      → Chain w h kind picture budgets 0 before line middle
      → SliceCall w h kind line budget picture middle 0 number finished next after
      → (number ≡ 0) × (finished ≡ allowed w h line budget)
  chain_goes_on budgets before {line} {budget} {number} {finished} {next} {middle} {after} chain call =
      let p = call.done refl in
      let inside = (slice_has call refl).line_in in
      let r = reached_next inside p (chain_reaches budgets chain (reached_none before)) in
      by_cases (dec_lt finished (allowed w h line budget))
      (λ early.
      let (is, some) = p.stopped early in
      let before_end : next < w + h = omega (arith, p.next_is) in
      absurd (some (is ∙ line_goes r before_end)))
      (λ late. let all : finished ≡ allowed w h line budget = omega (arith, p.at_most) in (p.all_finished all, all))

-- a chain that leads to another line begins with a call whose start refuses nothing
chain_has : (w h kind : ℕ) (picture budgets : List ℕ) (line : ℕ) (before : Buffers) (end : ℕ) (after : Buffers)
    → Chain w h kind picture budgets line before end after → line < end
    → SliceAccepted w h kind line (length picture) (length before.distances) (length before.sites)
    (length before.scratch)
chain_has w h kind picture [] line before end after (is, same) l = absurd (omega arith)
chain_has w h kind picture (budget ∷ budgets) line before end after (finished, next, middle, call, rest) l =
    slice_has call refl

-- beyond the board, a chain leaves distances and sites as they were
chain_beyond : (w h kind : ℕ) (picture budgets : List ℕ) (line : ℕ) (before : Buffers) (end : ℕ) (after : Buffers)
    → Chain w h kind picture budgets line before end after
    → Beyond (w * h) before.distances after.distances × Beyond (w * h) before.sites after.sites
chain_beyond w h kind picture [] line before end after (is, same) =
    rw same (record { as_long = refl; untouched = refl }, record { as_long = refl; untouched = refl })
chain_beyond w h kind picture (budget ∷ budgets) line before end after (finished, next, middle, call, rest) =
    let p = call.done refl in
    let (distances, sites) = chain_beyond w h kind picture budgets next middle end after rest in
    (beyond_both p.distances_beyond distances, beyond_both p.sites_beyond sites)

-- a chain of calls that goes through all lines
module _ (w h kind : ℕ) (picture budgets : List ℕ) (before after : Buffers)
    (chain : Chain w h kind picture budgets 0 before (w + h) after) where
  -- what its first call has, where the board has a line
  first : 0 < w + h → SliceAccepted w h kind 0 (length picture) (length before.distances) (length before.sites)
      (length before.scratch)
  first l = chain_has w h kind picture budgets 0 before (w + h) after chain l

  -- where it has come
  last : Reached w h kind picture (w + h) after
  last = chain_reaches budgets chain (reached_none before)

  -- at each cell it leaves the map word and the site word of the picture
  pub chain_words : (d1 d2 x y : ℕ) → x < w → y < h
      → MapWord kind d1 d2 w h picture x y (get_or after.distances (cell w x y) 0)
      × MapSite kind d1 d2 w h picture x y (get_or after.sites (cell w x y) 0)
  chain_words d1 d2 x y l m =
      let p = slice_parts (first (omega arith)).kind_in in
      picture_step kind d1 d2 w h picture x y (λ i. word_at w after.scratch i y) p
      (λ i j. last.columns i y j m (omega arith)) (row_of_parts y p (last.rows x y l m (omega arith)))

  -- "W+H lines from line 0 give the one-go map of that kind": whatever the budgets, the first W·H distances and sites are
  -- those of any buffers that an accepted map call leaves
  pub chain_map : {before' made : Buffers} {d1 d2 : ℕ} → PictureAfter w h kind d1 d2 picture before' made
      → (k : ℕ) → k < w * h → SameAt after made k
  chain_map {made = made} {d1} {d2} p =
      each_cell w (SameAt after made)
      (λ x y l m.
      let (word, site) = chain_words d1 d2 x y l m in
      let named = (slice_parts (first (omega arith)).kind_in).no_chamfer in
      (least_unique word (p.words x y l m), map_site_unique site ((p.names x y l m).named named)))

  -- every byte of its picture is good
  chain_bytes : 0 < w + h → Bytes picture
  chain_bytes some k l =
      each_cell w (λ (c : ℕ). get_or picture c 0 ≤ 1)
      (λ x y i j. column_passes w h picture x
      (sym (column_line_number w h picture after.scratch x i) ∙ last.passed x (omega arith)) y j) k
      (omega (arith, (first some).lent.picture_is))

  -- and some cell is bored
  chain_bored : 0 < w + h → Somewhere w h (Bored w picture)
  chain_bored some =
      let top : 0 < h = (first some).sides.height_from in
      let passed = sym (row_line_number w h picture after.scratch 0) ∙ last.passed (w + 0) (omega arith) in
      let (x, l, unmarked) = (row_passes w h after.scratch 0 passed).1 in
      let n = (last.columns x 0 l top (omega arith)).named unmarked in
      (x, word_at w after.scratch x 0, l, n.row_in, n.feature)

  -- so a map call in one go, lent enough, accepts the picture of a board that has a line
  pub chain_accepted : 0 < w + h → (d1 d2 distances sites scratch : ℕ)
      → w * h ≤ distances → w * h ≤ sites → scratch_words w h ≤ scratch
      → answer (picture_rows w h kind d1 d2 picture distances sites scratch) ≡ 0
  chain_accepted some d1 d2 distances sites scratch a b c =
      let begun = first some in
      let p = slice_parts begun.kind_in in
      let accepted : PictureAccepted w h kind d1 d2 picture distances sites scratch =
      record {
        sides = begun.sides;
        kind_in = p.kind_in;
        weights = λ e. absurd (p.no_chamfer e);
        lent = record { picture_is = begun.lent.picture_is; distances_from = a; sites_from = b; scratch_from = c };
        bytes = chain_bytes some;
        bored = chain_bored some;
      } in
      picture_answers accepted

  -- and over the same buffers it makes the same distances and sites, to the last word
  pub chain_call : {d1 d2 n : ℕ} {made : Buffers} → 0 < w + h → PictureCall w h kind d1 d2 picture before n made
      → (n ≡ 0) × (after.distances ≡ made.distances) × (after.sites ≡ made.sites)
  chain_call {d1} {d2} some call =
      let lent = (first some).lent in
      let zero = call.answered
      ∙ chain_accepted some d1 d2 _ _ _ lent.distances_from lent.sites_from lent.scratch_from in
      let p = call.done zero in
      let (distances, sites) = chain_beyond w h kind picture budgets 0 before (w + h) after chain in (
        zero,
        lists_pinned distances p.distances_beyond (λ k l. (chain_map p k l).0),
        lists_pinned sites p.sites_beyond (λ k l. (chain_map p k l).1),
      )
