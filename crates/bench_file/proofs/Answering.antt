-- The bench file's answer, put together. The first test that holds gives the number. A picture that a file bores, and that
-- has a bore, has what a kind 0 map asks, so the map is made; the first of its greatest words is the farthest, since each
-- cell has one word. The picture is spoken of by a name, and only at the end as the file's. Assumes nothing.
use mathlib.Core.Path.{◌≡◌, refl, ◌∙◌, sym, ap, subst}
use mathlib.Core.Logic.{by_cases}
use mathlib.Core.Bool.{Bool, true, false, cond, true≢false, false≢true}
use mathlib.Core.List.{List}
use Prim.Native.Nat.{ℕ, ◌*◌, ◌≤◌, ◌<◌}
use native.Mathlib.Decide.{dec_le}
use native.Mathlib.Omega.{arith}
use lib.Dec.{lit<, lit≤}
use lib.ListN.{length, get_or, replicate}
use Rattle.rules.specs.Limits.{bench_side}
use Rattle.rules.specs.Board.{cell, column, row}
use Rattle.rules.specs.BenchFile.{bore_all, bored_by, off_board, bores, BenchWord, Farthest}
use Rattle.rules.specs.Refusals.{answer, bad_length, no_bore, scratch_words, file_rows}
use Rattle.rules.specs.Accepted.{PictureAccepted}
use Rattle.rules.specs.Calls.{BenchCall}
use Rattle.rules.proofs.Board.{cell_in, cell_of, column_below, row_below}
use Rattle.rules.proofs.TieRule.{least_unique}
use Rattle.rules.proofs.BenchFile.{bored_length, bored_bytes}
use Rattle.rules.proofs.Refusals.{bored_somewhere}
use Rattle.rules.proofs.Calls.{refused_call, made_call}
use Rattle.bench_records.specs.Boring.{BoredBy}
use Rattle.bench_file.specs.Reading.{Readable, Peak}
use Rattle.bench_records.proofs.Counting.{bores_none}

-- a test that holds gives its number
holding : (b : Bool) (x y : ℕ) → b ≡ true → x ≡ cond b x y
holding true x y e = refl
holding false x y e = absurd (false≢true e)

-- one that does not leaves it to those after it
passing : {n y : ℕ} (b : Bool) (x : ℕ) → b ≡ false → n ≡ y → n ≡ cond b x y
passing true x e same = absurd (true≢false e)
passing false x e same = same

module _ (bytes : List ℕ) where
  -- 10 holds
  pub ten : bad_length (length bytes) ≡ true → BenchCall bytes 10 0 0 0
  ten e = refused_call (holding (bad_length (length bytes)) _ _ e) (λ z. omega arith) tt

  -- 10 does not hold, and 11 does
  pub eleven : bad_length (length bytes) ≡ false → off_board bytes ≡ true → BenchCall bytes 11 0 0 0
  eleven p e =
      refused_call (passing (bad_length (length bytes)) _ p (holding (off_board bytes) _ _ e)) (λ z. omega arith) tt

  module _ (P : Readable bytes) where
    -- past 10 and 11 the answer is up to 6
    past : {n : ℕ} → n ≡ cond (no_bore (bored_by bytes)) 6 0 → n ≡ answer (file_rows bytes)
    past same = passing (bad_length (length bytes)) _ P.whole (passing (off_board bytes) _ P.inside same)

    -- 6 holds
    pub six : {picture : List ℕ} → picture ≡ bored_by bytes → no_bore picture ≡ true → BenchCall bytes 6 0 0 0
    six bored e =
        refused_call (past (holding (no_bore (bored_by bytes)) _ _ (sym (ap no_bore bored) ∙ e))) (λ z. omega arith) tt

    -- no test holds
    pub read_call : {picture : List ℕ} {sites farthest number : ℕ} → picture ≡ bored_by bytes → no_bore picture ≡ false
        → sites ≡ bores picture → Farthest picture farthest number → BenchCall bytes 0 sites farthest number
    read_call {picture} {sites} {farthest} {number} bored e count far =
        made_call (past (passing (no_bore (bored_by bytes)) _ (sym (ap no_bore bored) ∙ e) refl))
        (record {
          sites_is = count ∙ ap bores bored;
          farthest_is = subst (λ p. Farthest p farthest number) bored far;
        })

  -- what is bored into a sound board is the file's picture
  pub picture_of : {before after : List ℕ} {fresh : ℕ} → before ≡ replicate (bench_side * bench_side) 0
      → BoredBy bytes before after fresh → after ≡ bored_by bytes
  picture_of sound B = B.picture_is ∙ ap (bore_all bytes) sound

-- and as many cells as were sound before are bored
pub count_of : {bytes before after : List ℕ} {fresh : ℕ} → before ≡ replicate (bench_side * bench_side) 0
    → BoredBy bytes before after fresh → fresh ≡ bores after
count_of {before = before} {fresh = fresh} sound B =
    let cells : ℕ = bench_side * bench_side in
    let none : bores before ≡ 0 = ap bores sound ∙ bores_none cells in
    omega (arith, B.counted, none)

-- a file's picture that has a bore has what a kind 0 map asks
pub map_accepted : (bytes : List ℕ) {picture : List ℕ} {distances sites scratch : ℕ} → picture ≡ bored_by bytes
    → no_bore picture ≡ false → distances ≡ bench_side * bench_side → sites ≡ bench_side * bench_side
    → scratch ≡ scratch_words bench_side bench_side
    → PictureAccepted bench_side bench_side 0 0 0 picture distances sites scratch
map_accepted bytes {picture} bored six d s t =
    let long : length picture ≡ bench_side * bench_side = ap length bored ∙ bored_length bytes in
    record {
      sides = record { width_from = lit≤ tt; width_to = lit≤ tt; height_from = lit≤ tt; height_to = lit≤ tt };
      kind_in = omega arith;
      weights = λ e. absurd (omega arith);
      lent = record { picture_is = long; distances_from = omega arith; sites_from = omega arith; scratch_from = omega arith };
      bytes = λ k l. subst (λ p. get_or p k 0 ≤ 1) (sym bored) (bored_bytes bytes k);
      bored = bored_somewhere bench_side bench_side picture (lit< tt) long six;
    }

-- where a list holds each cell's word, the first of the greatest words is the farthest
pub farthest_of : {picture words : List ℕ} {number : ℕ}
    → ((x y : ℕ) → x < bench_side → y < bench_side → BenchWord picture x y (get_or words (cell bench_side x y) 0))
    → Peak words (bench_side * bench_side) number → Farthest picture (get_or words number 0) number
farthest_of {picture} {words} {number} all P =
    let x : ℕ = column bench_side number in
    let y : ℕ = row bench_side number in
    let here : x < bench_side = column_below number (lit< tt) in
    let there : y < bench_side = row_below bench_side P.within in
    record {
      x = x;
      y = y;
      column_in = here;
      row_in = there;
      number_is = sym (cell_of bench_side number);
      attained =
          subst (λ c. BenchWord picture x y (get_or words c 0)) (cell_of bench_side number) (all x y here there);
      greatest =
          λ x' y' d l m word. rw (least_unique word (all x' y' l m)) (P.greatest (cell bench_side x' y') (cell_in l m));
      least_cell =
          λ x' y' l m word.
          by_cases (dec_le number (cell bench_side x' y')) (λ h. h)
          (λ h. absurd (omega (arith, least_unique word (all x' y' l m), P.first (cell bench_side x' y') (omega arith))));
    }
