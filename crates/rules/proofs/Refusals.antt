-- When the bench says no: what the answer of an entry tells, and what each test tells.
--
-- The rows of an entry have different numbers, none of them 0. So an answer names its row: it is the number of the k-th
-- row exactly when that row holds and none before it does, and 0 exactly when no row holds. That is proved once, over
-- any rows, and the table's numbers are shown to be so by computing them; no test has to be opened for it.
--
-- A test that is false tells a fact in the board's words, and the fact makes the test false. A test over a whole list
-- goes by one law for all tests of a number: it is false exactly when every number of the list fails it. An entry that
-- answers 0 therefore has the facts of all of its rows at once, and the bored cell that row 6 promises gets its column
-- and row by dividing its number by the width. Assumes nothing.
use mathlib.Core.Path.{◌≡◌, refl, sym, ap, ◌∙◌, subst}
use mathlib.Core.Logic.{◌↔◌, ◌≢◌, ◌⊎◌, inl, inr, ⊎_elim, by_cases}
use mathlib.Core.Bool.{Bool, true, false, not, cond, ◌&&◌, ◌||◌, true≢false, false≢true, and-eq-true_iff, or-true}
use mathlib.Core.List.{List, [], ◌∷◌, map}
use Prim.Native.Nat.{ℕ, zero, suc, ◌*◌, ◌/◌, ◌%◌, ◌≤◌, ◌<◌, suc-le-suc}
use native.Mathlib.Nat.{le_refl, le_of_suc-le-suc, not-suc-le-zero, zero-lt-suc, mul_comm}
use native.Mathlib.Nat.{mod-lt, div-add-mod', div-lt_iff_lt-mul}
use native.Mathlib.Decide.{dec_lt, ℕ_discrete}
use native.Mathlib.Omega.{arith}
use lib.Dec.{leb, eqb, lit<}
use lib.ListN.{length, get_or, drop, get_or-eq_default}
use borrow.Author.Tests.{ltb-false, leb-true, leb-false, eqb-true, eqb-false, not-true, not-false}
use borrow.Author.Tests.{le-ltb, le-leb, lt-leb, eq-eqb, ne_eqb}
use Rattle.std.specs.Prelude.{Any, All}
use Rattle.std.proofs.lemmas.List.{get_or_default}
use Rattle.rules.specs.declared.Setting.{Setting}
use Rattle.rules.specs.Limits.{kind_limit, cost_kind_limit, mark, cost_limit, file_limit, bench_side, text_bytes}
use Rattle.rules.specs.Board.{Sides, cell, Bored, Unmarked}
use Rattle.rules.specs.Measures.{chamfer_kind, Weights}
use Rattle.rules.specs.BenchFile.{bored_by}
use Rattle.rules.specs.Knob.{Good}
pub use Rattle.rules.specs.Accepted.{Lent, Slices, Bytes, Costs, Comparable, Somewhere, PictureAccepted, CostAccepted, LaneAccepted, ClearAccepted, FileAccepted, TextAccepted}
use Rattle.rules.specs.Refusals.{Row, row, answer, any}
use Rattle.rules.specs.Refusals.{bad_sides, bad_kind, bad_weights, bad_buffers, bad_path, bad_slices, bad_byte}
use Rattle.rules.specs.Refusals.{bad_cost, no_bore, all_marked, bad_ends, bad_setting, bad_changeover, bad_length}
use Rattle.rules.specs.Refusals.{picture_rows, cost_rows, lane_rows, clear_rows, opening_rows, changeover_rows}
use Rattle.rules.specs.Refusals.{file_rows, short_text, figure_rows, text_rows}
use Rattle.rules.proofs.BenchFile.{bored_length}
use Rattle.rules.proofs.Knob.{pitch_passes}

-- the row that is tested after k others; past the last stands one with the number 0 that always holds
abbrev pub row_at : List Row → ℕ → Row
row_at rows k = get_or rows k (row 0 true)

-- the numbers of rows, in the order of testing
abbrev pub numbers : List Row → List ℕ
numbers rows = map (λ (r : Row). r.number) rows

-- a number is neither 0 nor that of one of the rows
abbrev pub fresh : ℕ → List Row → Bool
fresh n [] = not (eqb n 0)
fresh n (r ∷ rs) = not (eqb n r.number) && fresh n rs

-- the numbers of the rows are all different, and none is 0
abbrev pub distinct : List Row → Bool
distinct [] = true
distinct (r ∷ rs) = fresh r.number rs && distinct rs

-- the answer is the number of the k-th row exactly when that row holds and none tested earlier does
abbrev pub NamedAt : List Row → ℕ → Type 0
NamedAt rows k =
    (answer rows ≡ (row_at rows k).number)
    ↔ (((row_at rows k).holds ≡ true) × ((k' : ℕ) → k' < k → (row_at rows k').holds ≡ false))

-- what an answer tells: of each row, and of none
pub record RowByRow (rows : List Row) : Type 0 where
  pub named : (k : ℕ) → k < length rows → NamedAt rows k
  pub none : (answer rows ≡ 0) ↔ ((k : ℕ) → k < length rows → (row_at rows k).holds ≡ false)

-- a number fresh before a row differs from the row's, and is fresh after it
fresh_cons : (n : ℕ) (r : Row) (rs : List Row) → fresh n (r ∷ rs) ≡ true → (n ≢ r.number) × (fresh n rs ≡ true)
fresh_cons n r rs f =
    let (differs, later) = (and-eq-true_iff (not (eqb n r.number)) (fresh n rs)).0 f in
    (eqb-false n r.number (not-true (eqb n r.number) differs), later)

-- a fresh number is that of no row, nor the 0 past the last
fresh_at : (n : ℕ) (rows : List Row) → fresh n rows ≡ true → (k : ℕ) → n ≢ (row_at rows k).number
fresh_at n [] f k = eqb-false n 0 (not-true (eqb n 0) f)
fresh_at n (r ∷ rs) f zero = (fresh_cons n r rs f).0
fresh_at n (r ∷ rs) f (suc k) = fresh_at n rs (fresh_cons n r rs f).1 k

-- so it is not their answer
fresh_answer : (n : ℕ) (rows : List Row) → fresh n rows ≡ true → n ≢ answer rows
fresh_answer n [] f = fresh_at n [] f zero
fresh_answer n (r ∷ rs) f = either r.holds (fresh_cons n r rs f).0 (fresh_answer n rs (fresh_cons n r rs f).1)
  where
    either : {x y : ℕ} (b : Bool) → n ≢ x → n ≢ y → n ≢ cond b x y
    either true p q = p
    either false p q = q

-- a row of a fresh number, put in front of rows that name theirs, is named too
named_cons : (n : ℕ) (b : Bool) (rows : List Row) → fresh n rows ≡ true → ((k : ℕ) → k ≤ length rows → NamedAt rows k)
    → (k : ℕ) → k ≤ suc (length rows) → NamedAt (row n b ∷ rows) k
named_cons n true rows f rest zero h = (λ e. (refl, λ k' l. absurd (not-suc-le-zero l)), λ p. refl)
named_cons n true rows f rest (suc k) h =
    (λ e. absurd (fresh_at n rows f k e), λ p. absurd (true≢false (p.1 zero (omega arith))))
named_cons n false rows f rest zero h = (λ e. absurd (fresh_answer n rows f (sym e)), λ p. absurd (false≢true p.0))
named_cons n false rows f rest (suc k) h =
    let later : NamedAt rows k = rest k (le_of_suc-le-suc h) in
    (λ e. ((later.0 e).0, before (later.0 e).1), λ p. later.1 (p.0, λ k' l. p.1 (suc k') (suc-le-suc l)))
  where
    before : ((k' : ℕ) → k' < k → (row_at rows k').holds ≡ false) → (k' : ℕ) → k' < suc k
        → (row_at (row n false ∷ rows) k').holds ≡ false
    before all zero l = refl
    before all (suc k') l = all k' (le_of_suc-le-suc l)

-- rows of different numbers name their row, the 0 past the last among them
named_at : (rows : List Row) → distinct rows ≡ true → (k : ℕ) → k ≤ length rows → NamedAt rows k
named_at [] d k h = (λ e. (refl, λ k' l. absurd (omega arith)), λ p. refl)
named_at (r ∷ rs) d k h =
    let (new, later) = (and-eq-true_iff (fresh r.number rs) (distinct rs)).0 d in
    named_cons r.number r.holds rs new (named_at rs later) k h

-- any rows whose numbers are all different, and none of them 0, answer row by row
pub row_by_row : (rows : List Row) → distinct rows ≡ true → RowByRow rows
row_by_row rows d =
    let n : ℕ = length rows in
    let last : row_at rows n ≡ row 0 true = get_or-eq_default rows (row 0 true) (le_refl n) in
    let end : NamedAt rows n = named_at rows d n (le_refl n) in
    record {
      named = λ k h. named_at rows d k (omega arith);
      none = (
        λ e. (end.0 (e ∙ sym (ap (λ (r : Row). r.number) last))).1,
        λ all. end.1 (ap (λ (r : Row). r.holds) last, all) ∙ ap (λ (r : Row). r.number) last,
      );
    }

-- a test that cannot fail holds
pub holds_unless : (b : Bool) → (b ≡ false → ⊥) → b ≡ true
holds_unless true f = refl
holds_unless false f = absurd (f refl)

-- of a test "one or the other" that is false, the one is false
pub or_first : (a b : Bool) → (a || b) ≡ false → a ≡ false
or_first true b e = e
or_first false b e = refl

-- and so is the other
pub or_second : (a b : Bool) → (a || b) ≡ false → b ≡ false
or_second true b e = absurd (true≢false e)
or_second false b e = e

-- it is false where both are
pub or_false : (a b : Bool) → a ≡ false → b ≡ false → (a || b) ≡ false
or_false true b p q = p
or_false false b p q = q

-- where it is true, one of them is
or_either : (a b : Bool) → (a || b) ≡ true → (a ≡ true) ⊎ (b ≡ true)
or_either true b e = inl refl
or_either false b e = inr e

-- a number that is not found to be 0 is at least 1
above_zero : (n : ℕ) → eqb n 0 ≡ false → 1 ≤ n
above_zero n e = let h : n ≢ 0 = eqb-false n 0 e in omega arith

-- a number that is at least 1 is not found to be 0
not_zero : (n : ℕ) → 1 ≤ n → eqb n 0 ≡ false
not_zero n h = ne_eqb n 0 (omega arith)

-- the laws that read a fact off a false test
ruleset reads = (or_first, or_second, ltb-false, leb-false, above_zero, not-false, eqb-true)

-- the laws that make a test false from the fact
ruleset makes = (or_false, le-ltb, lt-leb, not_zero, eq-eqb)

-- where no number of a list passes the test, each fails it
pub any_false_means : (p : ℕ → Bool) (l : List ℕ) → any p l ≡ false → (k : ℕ) → k < length l → p (get_or l k 0) ≡ false
any_false_means p [] e k h = absurd (not-suc-le-zero h)
any_false_means p (b ∷ l) e zero h = or_first (p b) (any p l) e
any_false_means p (b ∷ l) e (suc k) h = any_false_means p l (or_second (p b) (any p l) e) k (le_of_suc-le-suc h)

-- where each fails it, none passes
pub any_none : (p : ℕ → Bool) (l : List ℕ) → ((k : ℕ) → k < length l → p (get_or l k 0) ≡ false) → any p l ≡ false
any_none p [] all = refl
any_none p (b ∷ l) all =
    or_false (p b) (any p l) (all zero (zero-lt-suc (length l))) (any_none p l (λ k h. all (suc k) (suc-le-suc h)))

-- where a number passes, there is a place for it
pub any_true_means : (p : ℕ → Bool) (l : List ℕ) → any p l ≡ true
    → (k : ℕ) × (k < length l) × (p (get_or l k 0) ≡ true)
any_true_means p [] e = absurd (false≢true e)
any_true_means p (b ∷ l) e = go (any_true_means p l) (or_either (p b) (any p l) e)
  where
    go : (any p l ≡ true → (k : ℕ) × (k < length l) × (p (get_or l k 0) ≡ true)) → (p b ≡ true) ⊎ (any p l ≡ true)
        → (k : ℕ) × (k < suc (length l)) × (p (get_or (b ∷ l) k 0) ≡ true)
    go later (inl here) = (zero, zero-lt-suc (length l), here)
    go later (inr there) = let (k, h, q) = later there in (suc k, suc-le-suc h, q)

-- a number in its place that passes decides the test
pub any_here : (p : ℕ → Bool) (l : List ℕ) (k : ℕ) → k < length l → p (get_or l k 0) ≡ true → any p l ≡ true
any_here p [] k h e = absurd (not-suc-le-zero h)
any_here p (b ∷ l) zero h e = rw e
any_here p (b ∷ l) (suc k) h e = rw (any_here p l k (le_of_suc-le-suc h) e) (or-true (p b))

-- two tests of which each is true where the other is are one
pub same_test : (a b : Bool) → (a ≡ true → b ≡ true) → (b ≡ true → a ≡ true) → a ≡ b
same_test true true to from = refl
same_test true false to from = sym (to refl)
same_test false true to from = from refl
same_test false false to from = refl

-- what is true just where some number of the list has P is the test of P
pub any_told : (p : ℕ → Bool) {P : ℕ → Type 0} → ((n : ℕ) → P n → p n ≡ true) → ((n : ℕ) → p n ≡ true → P n)
    → (a : Bool) (l : List ℕ) → ((a ≡ true) ↔ Any P l) → a ≡ any p l
any_told p {P} to from a l told =
    same_test a (any p l)
    (λ e. let (k, x, h, here, has) = told.0 e in
    any_here p l k h (to (get_or l k 0) (subst P (sym here ∙ get_or_default l k x 0 h) has)))
    (λ e. let (k, h, q) = any_true_means p l e in
    told.1 (k, get_or l k 0, h, get_or_default l k (get_or l k 0) 0 h, from (get_or l k 0) q))

-- where the first i numbers fail, the test of the rest decides
pub any_drop : (p : ℕ → Bool) (l : List ℕ) (i : ℕ) → ((k : ℕ) → k < i → p (get_or l k 0) ≡ false)
    → any p l ≡ any p (drop i l)
any_drop p l zero all = refl
any_drop p [] (suc i) all = refl
any_drop p (b ∷ l) (suc i) all = rw (all zero (zero-lt-suc i)) (any_drop p l i (λ k h. all (suc k) (suc-le-suc h)))

-- row 1 does not hold: both sides are from 1 to the limit
pub sides_passes : (w h : ℕ) → bad_sides w h ≡ false → Sides w h
unfolding bad_sides
sides_passes w h e = search reads

-- with such sides row 1 does not hold
pub sides_good : (w h : ℕ) → Sides w h → bad_sides w h ≡ false
unfolding bad_sides
sides_good w h s = search makes

-- row 2 does not hold: the kind is one that the call knows
pub kind_passes : (most kind : ℕ) → bad_kind most kind ≡ false → kind ≤ most
unfolding bad_kind
kind_passes most kind e = search reads

-- of such a kind row 2 does not hold
pub kind_good : (most kind : ℕ) → kind ≤ most → bad_kind most kind ≡ false
unfolding bad_kind
kind_good most kind h = search makes

-- row 3 does not hold: the weights of kind 3 keep the rule
pub weights_passes : (kind d1 d2 : ℕ) → bad_weights kind d1 d2 ≡ false → kind ≡ chamfer_kind → Weights d1 d2
unfolding bad_weights
weights_passes kind d1 d2 e q = let tested = rw (eq-eqb kind chamfer_kind q) at e in search reads

-- with such weights, or another kind, row 3 does not hold
pub weights_good : (kind d1 d2 : ℕ) → (kind ≡ chamfer_kind → Weights d1 d2) → bad_weights kind d1 d2 ≡ false
unfolding bad_weights
weights_good kind d1 d2 f =
    by_cases (ℕ_discrete kind chamfer_kind)
    (λ q. let weights : Weights d1 d2 = f q in rw (eq-eqb kind chamfer_kind q) (search makes))
    (λ other. rw (ne_eqb kind chamfer_kind other))

-- row 4 does not hold: a map call is lent that
pub buffers_passes : (w h picture distances sites scratch : ℕ) → bad_buffers w h picture distances sites scratch ≡ false
    → Lent w h picture distances sites scratch
unfolding bad_buffers
buffers_passes w h picture distances sites scratch e = search reads

-- of a call that is lent that row 4 does not hold
pub buffers_good : (w h picture distances sites scratch : ℕ) → Lent w h picture distances sites scratch
    → bad_buffers w h picture distances sites scratch ≡ false
unfolding bad_buffers
buffers_good w h picture distances sites scratch l = search makes

-- row 4 does not hold: a path buffer has W·H words or more
pub path_passes : (w h path : ℕ) → bad_path w h path ≡ false → w * h ≤ path
unfolding bad_path
path_passes w h path e = search reads

-- of such a path buffer row 4 does not hold
pub path_good : (w h path : ℕ) → w * h ≤ path → bad_path w h path ≡ false
unfolding bad_path
path_good w h path l = search makes

-- row 4 does not hold: a text buffer has so many bytes or more
pub text_bytes_passes : (bytes : ℕ) → short_text bytes ≡ false → text_bytes ≤ bytes
unfolding short_text
text_bytes_passes bytes e = search reads

-- of such a text buffer row 4 does not hold
pub text_bytes_good : (bytes : ℕ) → text_bytes ≤ bytes → short_text bytes ≡ false
unfolding short_text
text_bytes_good bytes l = search makes

-- row 4 does not hold: the slices of a clear map are so
pub slices_passes : (squares clear : ℕ) → bad_slices squares clear ≡ false → Slices squares clear
unfolding bad_slices
slices_passes squares clear e = search reads

-- of such slices row 4 does not hold
pub slices_good : (squares clear : ℕ) → Slices squares clear → bad_slices squares clear ≡ false
unfolding bad_slices
slices_good squares clear s = search makes

-- a byte that is not bad is 0 or 1
pub byte_passes : (b : ℕ) → bad_byte b ≡ false → b ≤ 1
unfolding bad_byte
byte_passes b e =
    let either = or_either (eqb b 0) (eqb b 1) (search reads) in
    ⊎_elim (λ q. omega (arith, eqb-true b 0 q)) (λ q. omega (arith, eqb-true b 1 q)) either

-- neither 0 nor 1 is a bad byte
pub byte_good : (b : ℕ) → b ≤ 1 → bad_byte b ≡ false
unfolding bad_byte
byte_good zero h = refl
byte_good (suc zero) h = refl
byte_good (suc (suc b)) h = absurd (omega arith)

-- row 5 does not hold: every byte of the picture is 0 or 1
pub bytes_passes : (picture : List ℕ) → any bad_byte picture ≡ false → Bytes picture
bytes_passes picture e k h = byte_passes (get_or picture k 0) (any_false_means bad_byte picture e k h)

-- of such a picture row 5 does not hold
pub bytes_good : (picture : List ℕ) → Bytes picture → any bad_byte picture ≡ false
bytes_good picture all = any_none bad_byte picture (λ k h. byte_good (get_or picture k 0) (all k h))

-- a cost that is not bad is at most the limit, or the mark
pub cost_passes : (c : ℕ) → bad_cost c ≡ false → (c ≤ cost_limit) ⊎ (c ≡ mark)
unfolding bad_cost
cost_passes c e =
    let either = or_either (leb c cost_limit) (eqb c mark) (search reads) in
    ⊎_elim (λ q. inl (leb-true c cost_limit q)) (λ q. inr (eqb-true c mark q)) either

-- neither such a cost nor the mark is bad
pub cost_good : (c : ℕ) → (c ≤ cost_limit) ⊎ (c ≡ mark) → bad_cost c ≡ false
unfolding bad_cost
cost_good c (inl h) = rw (le-leb c cost_limit h)
cost_good c (inr q) = rw (eq-eqb c mark q, or-true)

-- row 5 does not hold: every cost is at most the limit, or the mark
pub costs_passes : (costs : List ℕ) → any bad_cost costs ≡ false → Costs costs
costs_passes costs e k h = cost_passes (get_or costs k 0) (any_false_means bad_cost costs e k h)

-- of such costs row 5 does not hold
pub costs_good : (costs : List ℕ) → Costs costs → any bad_cost costs ≡ false
costs_good costs all = any_none bad_cost costs (λ k h. cost_good (get_or costs k 0) (all k h))

-- row 6 does not hold: a byte of the picture is 1
pub bore_passes : (picture : List ℕ) → no_bore picture ≡ false → (k : ℕ) × (k < length picture) × (get_or picture k 0 ≡ 1)
unfolding no_bore
bore_passes picture e =
    let (k, h, q) = any_true_means (eqb 1) picture (search reads) in
    (k, h, sym (eqb-true 1 (get_or picture k 0) q))

-- a byte above 1 is bad, and a bad byte is above 1
pub bad_above : (b : ℕ) → 1 < b → bad_byte b ≡ true
bad_above b h = holds_unless (bad_byte b) (λ e. omega (arith, byte_passes b e))

pub above_bad : (b : ℕ) → bad_byte b ≡ true → 1 < b
above_bad b e = by_cases (dec_lt 1 b) (λ h. h) (λ n. absurd (true≢false (sym e ∙ byte_good b (omega arith))))

-- of such a picture row 6 does not hold
pub bore_good : (picture : List ℕ) → (k : ℕ) × (k < length picture) × (get_or picture k 0 ≡ 1) → no_bore picture ≡ false
unfolding no_bore
bore_good picture (k, h, q) = rw (any_here (eqb 1) picture k h (eq-eqb 1 (get_or picture k 0) (sym q)))

-- row 6 does not hold: a cost is not the mark
pub unmarked_passes : (costs : List ℕ) → all_marked costs ≡ false
    → (k : ℕ) × (k < length costs) × (get_or costs k 0 ≢ mark)
unfolding all_marked
unmarked_passes costs e =
    let (k, h, q) = any_true_means (λ c. not (eqb c mark)) costs (search reads) in
    (k, h, eqb-false (get_or costs k 0) mark (not-true (eqb (get_or costs k 0) mark) q))

-- of such costs row 6 does not hold
pub unmarked_good : (costs : List ℕ) → (k : ℕ) × (k < length costs) × (get_or costs k 0 ≢ mark)
    → all_marked costs ≡ false
unfolding all_marked
unmarked_good costs (k, h, q) =
    rw (any_here (λ c. not (eqb c mark)) costs k h (ap not (ne_eqb (get_or costs k 0) mark q)))

-- what is true just where every cost is the mark is row 6
pub marked_told : (a : Bool) (costs : List ℕ) → ((a ≡ true) ↔ All (λ cost. cost ≡ mark) costs) → a ≡ all_marked costs
marked_told a costs told =
    same_test a (all_marked costs)
    (λ e. holds_unless (all_marked costs) (λ f. let (k, h, other) = unmarked_passes costs f in other (told.0 e k 0 h)))
    (λ e. told.1 (λ k d h.
    let here : get_or costs k 0 ≡ mark =
    by_cases (ℕ_discrete (get_or costs k 0) mark) (λ q. q)
    (λ other. absurd (true≢false (sym e ∙ unmarked_good costs (k, h, other)))) in
    get_or_default costs k d 0 h ∙ here))

-- row 7 does not hold: both ends of the lane are cells of the board
pub ends_passes : (w h from to : ℕ) → bad_ends w h from to ≡ false → (from < w * h) × (to < w * h)
unfolding bad_ends
ends_passes w h from to e = search reads

-- of such ends row 7 does not hold
pub ends_good : (w h from to : ℕ) → (from < w * h) × (to < w * h) → bad_ends w h from to ≡ false
unfolding bad_ends
ends_good w h from to p = search makes

-- row 9 does not hold: the columns and values are so
pub changeover_passes : (i u a b : ℕ) → bad_changeover i u a b ≡ false → Comparable i u a b
unfolding bad_changeover
changeover_passes i u a b e = search reads

-- of such columns and values row 9 does not hold
pub changeover_good : (i u a b : ℕ) → Comparable i u a b → bad_changeover i u a b ≡ false
unfolding bad_changeover
changeover_good i u a b c = search makes

-- row 10 does not hold: the length of the file is a multiple of 4, and not over the limit
pub file_passes : (n : ℕ) → bad_length n ≡ false → (n % 4 ≡ 0) × (n ≤ file_limit)
unfolding bad_length
file_passes n e = search reads

-- of such a length row 10 does not hold
pub file_good : (n : ℕ) → (n % 4 ≡ 0) × (n ≤ file_limit) → bad_length n ≡ false
unfolding bad_length
file_good n p = search makes

-- within a list it does not matter what stands for the words beyond it
pub getD_within : (l : List ℕ) (k d d' : ℕ) → k < length l → get_or l k d ≡ get_or l k d'
getD_within [] k d d' h = absurd (not-suc-le-zero h)
getD_within (b ∷ l) zero d d' h = refl
getD_within (b ∷ l) (suc k) d d' h = getD_within l k d d' (le_of_suc-le-suc h)

-- what the cell with the number k has, the cell in column k % W and row k / W has
somewhere : (w h : ℕ) (P : ℕ → Type 0) → 1 ≤ w → (k : ℕ) → k < w * h → P k → Somewhere w h (λ x y. P (cell w x y))
somewhere w h P wide k l p =
    (k % w, k / w, mod-lt k wide, (div-lt_iff_lt-mul wide).1 (rw (mul_comm h w) l), rw (div-add-mod' k w) p)

-- so in a picture of W·H bytes of which row 6 does not hold, some cell is bored
pub bored_somewhere : (w h : ℕ) (picture : List ℕ) → 1 ≤ w → length picture ≡ w * h → no_bore picture ≡ false
    → Somewhere w h (Bored w picture)
bored_somewhere w h picture wide long e =
    let (k, l, one) = bore_passes picture e in
    somewhere w h (λ (c : ℕ). get_or picture c 0 ≡ 1) wide k (omega arith) one

-- and among W·H costs of which it does not hold, some cell is unmarked
pub unmarked_somewhere : (w h : ℕ) (costs : List ℕ) → 1 ≤ w → length costs ≡ w * h → all_marked costs ≡ false
    → Somewhere w h (Unmarked w costs)
unmarked_somewhere w h costs wide long e =
    let (k, l, other) = unmarked_passes costs e in
    somewhere w h (λ (c : ℕ). get_or costs c mark ≢ mark) wide k (omega arith) (rw (getD_within costs k mark 0 l) other)

module _ (w h kind d1 d2 : ℕ) (picture : List ℕ) (distances sites scratch : ℕ) where
  -- "Pictures test 1 to 6"
  pub picture_order : numbers (picture_rows w h kind d1 d2 picture distances sites scratch) ≡ 1 ∷ 2 ∷ 3 ∷ 4 ∷ 5 ∷ 6 ∷ []
  picture_order = refl

  -- each answer names its row
  pub picture_row_by_row : RowByRow (picture_rows w h kind d1 d2 picture distances sites scratch)
  picture_row_by_row = row_by_row (picture_rows w h kind d1 d2 picture distances sites scratch) refl

  -- and 0 tells the facts of all six
  pub picture_accepted : answer (picture_rows w h kind d1 d2 picture distances sites scratch) ≡ 0
      → PictureAccepted w h kind d1 d2 picture distances sites scratch
  picture_accepted e =
      let passed = picture_row_by_row.none.0 e in
      let sides = sides_passes w h (passed 0 (lit< tt)) in
      let lent = buffers_passes w h (length picture) distances sites scratch (passed 3 (lit< tt)) in
      record {
        sides = sides;
        kind_in = kind_passes kind_limit kind (passed 1 (lit< tt));
        weights = weights_passes kind d1 d2 (passed 2 (lit< tt));
        lent = lent;
        bytes = bytes_passes picture (passed 4 (lit< tt));
        bored = bored_somewhere w h picture sides.width_from lent.picture_is (passed 5 (lit< tt));
      }

module _ (w h kind : ℕ) (costs : List ℕ) (distances sites scratch : ℕ) where
  -- "costs 1, 2, 4, 5, 6"
  pub cost_order : numbers (cost_rows w h kind costs distances sites scratch) ≡ 1 ∷ 2 ∷ 4 ∷ 5 ∷ 6 ∷ []
  cost_order = refl

  -- each answer names its row
  pub cost_row_by_row : RowByRow (cost_rows w h kind costs distances sites scratch)
  cost_row_by_row = row_by_row (cost_rows w h kind costs distances sites scratch) refl

  -- and 0 tells the facts of all five
  pub cost_accepted : answer (cost_rows w h kind costs distances sites scratch) ≡ 0
      → CostAccepted w h kind costs distances sites scratch
  cost_accepted e =
      let passed = cost_row_by_row.none.0 e in
      let sides = sides_passes w h (passed 0 (lit< tt)) in
      let lent = buffers_passes w h (length costs) distances sites scratch (passed 2 (lit< tt)) in
      record {
        sides = sides;
        kind_in = kind_passes cost_kind_limit kind (passed 1 (lit< tt));
        lent = lent;
        costs_in = costs_passes costs (passed 3 (lit< tt));
        unmarked = unmarked_somewhere w h costs sides.width_from lent.picture_is (passed 4 (lit< tt));
      }

module _ (w h : ℕ) (picture : List ℕ) (from to distances sites scratch path : ℕ) where
  -- "a lane 1, 4, 5, 6, 7"
  pub lane_order : numbers (lane_rows w h picture from to distances sites scratch path) ≡ 1 ∷ 4 ∷ 5 ∷ 6 ∷ 7 ∷ []
  lane_order = refl

  -- each answer names its row
  pub lane_row_by_row : RowByRow (lane_rows w h picture from to distances sites scratch path)
  lane_row_by_row = row_by_row (lane_rows w h picture from to distances sites scratch path) refl

  -- and 0 tells the facts of all five
  pub lane_accepted : answer (lane_rows w h picture from to distances sites scratch path) ≡ 0
      → LaneAccepted w h picture from to distances sites scratch path
  lane_accepted e =
      let passed = lane_row_by_row.none.0 e in
      let long = passed 1 (lit< tt) in
      let sides = sides_passes w h (passed 0 (lit< tt)) in
      let lent = buffers_passes w h (length picture) distances sites scratch (search reads) in
      let ends = ends_passes w h from to (passed 4 (lit< tt)) in
      record {
        sides = sides;
        lent = lent;
        path_from = path_passes w h path (search reads);
        bytes = bytes_passes picture (passed 2 (lit< tt));
        bored = bored_somewhere w h picture sides.width_from lent.picture_is (passed 3 (lit< tt));
        from_in = ends.0;
        to_in = ends.1;
      }

module _ (s : Setting) (squares clear : ℕ) where
  -- "a clear map 4, 8"
  pub clear_order : numbers (clear_rows s squares clear) ≡ 4 ∷ 8 ∷ []
  clear_order = refl

  -- each answer names its row
  pub clear_row_by_row : RowByRow (clear_rows s squares clear)
  clear_row_by_row = row_by_row (clear_rows s squares clear) refl

  -- and 0 tells the facts of both
  pub clear_accepted : answer (clear_rows s squares clear) ≡ 0 → ClearAccepted s squares clear
  clear_accepted e =
      let passed = clear_row_by_row.none.0 e in
      record { slices = slices_passes squares clear (passed 0 (lit< tt)); setting = passed 1 (lit< tt) }

module _ (s : Setting) where
  -- "opening 8"
  pub opening_order : numbers (opening_rows s) ≡ 8 ∷ []
  opening_order = refl

  -- its answer names its row
  pub opening_row_by_row : RowByRow (opening_rows s)
  opening_row_by_row = row_by_row (opening_rows s) refl

  -- and 0 tells that the setting passed
  pub opening_accepted : answer (opening_rows s) ≡ 0 → bad_setting s ≡ false
  opening_accepted e = opening_row_by_row.none.0 e 0 (lit< tt)

module _ (i u a b : ℕ) where
  -- "the changeover 9"
  pub changeover_order : numbers (changeover_rows i u a b) ≡ 9 ∷ []
  changeover_order = refl

  -- its answer names its row
  pub changeover_row_by_row : RowByRow (changeover_rows i u a b)
  changeover_row_by_row = row_by_row (changeover_rows i u a b) refl

  -- and 0 tells its facts
  pub changeover_accepted : answer (changeover_rows i u a b) ≡ 0 → Comparable i u a b
  changeover_accepted e = changeover_passes i u a b (changeover_row_by_row.none.0 e 0 (lit< tt))

module _ (bytes : List ℕ) where
  -- "the file program tests 10, 11, 6"
  pub file_order : numbers (file_rows bytes) ≡ 10 ∷ 11 ∷ 6 ∷ []
  file_order = refl

  -- each answer names its row
  pub file_row_by_row : RowByRow (file_rows bytes)
  file_row_by_row = row_by_row (file_rows bytes) refl

  -- and 0 tells the facts of all three
  pub file_accepted : answer (file_rows bytes) ≡ 0 → FileAccepted bytes
  file_accepted e =
      let passed = file_row_by_row.none.0 e in
      let (whole, length_to) = file_passes (length bytes) (passed 0 (lit< tt)) in
      let bore = passed 2 (lit< tt) in
      record {
        whole = whole;
        length_to = length_to;
        inside = passed 1 (lit< tt);
        bored = bored_somewhere bench_side bench_side (bored_by bytes) (lit< tt) (bored_length bytes) bore;
      }

module _ (pitch : ℕ) where
  -- Document 02, E4: "Refusal 8 for the pitch"
  pub figure_order : numbers (figure_rows pitch) ≡ 8 ∷ []
  figure_order = refl

  -- its answer names its row
  pub figure_row_by_row : RowByRow (figure_rows pitch)
  figure_row_by_row = row_by_row (figure_rows pitch) refl

  -- and 0 tells what the pitch opens to
  pub figure_accepted : answer (figure_rows pitch) ≡ 0 → (a : ℕ) × Good pitch a
  figure_accepted e = pitch_passes pitch (figure_row_by_row.none.0 e 0 (lit< tt))

  module _ (bytes : ℕ) where
    -- "4, before it"
    pub text_order : numbers (text_rows pitch bytes) ≡ 4 ∷ 8 ∷ []
    text_order = refl

    -- each answer names its row
    pub text_row_by_row : RowByRow (text_rows pitch bytes)
    text_row_by_row = row_by_row (text_rows pitch bytes) refl

    -- and 0 tells the facts of both
    pub text_accepted : answer (text_rows pitch bytes) ≡ 0 → TextAccepted pitch bytes
    text_accepted e =
        let passed = text_row_by_row.none.0 e in
        let (a, good) = pitch_passes pitch (passed 1 (lit< tt)) in
        record { bytes_from = text_bytes_passes bytes (passed 0 (lit< tt)); a = a; pitch_good = good }
