-- One input allows one answer, and one content of each lent list.
--
-- The number of an answer is computed from the inputs, so there is one. A refusal leaves every list as it was. What an
-- accepted call leaves is fixed word by word: a map word is a least word, a site word is the number of the cell that
-- the tie rule takes (for kind 3 the mark), a scratch word is 0, a path word is a cell of the best lane or the mark,
-- and a clear byte follows from the knob's two whole numbers; two least words are equal, and so are two such cells, two
-- best lanes and two openings. Beyond the words that a call writes, a list is as it was. Two lists of one length that
-- agree word by word are one list. A number of millimetres and its text follow from the one root, and two f64 of one
-- word are one.
--
-- An answer by cases is fixed as well. Its number tells the cases apart, since no refusal has the number 0, and each
-- refusal has its own.
--
-- Assumes nothing.
use mathlib.Core.Path.{◌≡◌, refl, sym, ap, ◌∙◌, subst}
use mathlib.Core.Logic.{◌≢◌, by_cases}
use mathlib.Core.Bool.{true}
use mathlib.Core.List.{List, [], ◌∷◌}
use Prim.Native.Nat.{ℕ, zero, suc, ◌+◌, ◌-◌, ◌*◌, ◌≤◌, ◌<◌}
use native.Mathlib.Decide.{dec_lt, ℕ_discrete}
use native.Mathlib.Omega.{arith}
use lib.IntN.{ℤ}
use Rattle.std.specs.Prelude.{Result, Ok, Err, Option, Some, None}
use lib.Ieee.{Float, binary64, fits}
use lib.ListN.{length, get_or, take}
use lib.Seq.{ext_get_or, get_or-take, get_or-drop}
use Rattle.rules.specs.declared.Setting.{Setting}
use Rattle.rules.specs.declared.refusal.Refusal.{Refusal}
use Rattle.rules.specs.declared.refusal.Refusal.TheVariants.{Sides, Kind, Weights, Buffers as BadBuffers, Cell, NoBore, Ends, Setting as BadSetting, Changeover as BadChangeover, FileLength, OffBoard, Line, Word as BadWord}
use Rattle.rules.specs.declared.answers.Opening.{Opening}
use Rattle.rules.specs.declared.answers.Course.{Course}
use Rattle.rules.specs.declared.answers.Reading.{Reading}
use Rattle.rules.specs.Board.{cell}
use Rattle.rules.specs.Measures.{chamfer_kind}
use Rattle.rules.specs.Lane.{Lane}
use Rattle.rules.specs.Limits.{bench_side}
use Rattle.rules.specs.BenchFile.{bored_by, bores, text}
use Rattle.rules.specs.Refusals.{Row}
use Rattle.rules.specs.Calls.{Call, Buffers, Beyond, MapAfter, SiteWord, PictureAfter, LaneAfter, ClearAfter, BenchRead}
use Rattle.rules.specs.Calls.{PictureCall, CostCall, LaneCall, OpeningCall, ClearCall, ChangeoverCall, BenchCall, BenchPrints}
use Rattle.rules.specs.Answers.{refusal_number, stop_number, number_of, opening_a, opening_b, changeover_at}
use Rattle.rules.specs.Answers.{lane_width, lane_cells}
use Rattle.rules.specs.Answers.{bench_sites, bench_farthest, bench_cell}
use Rattle.rules.specs.Answers.{figure_out, text_count}
use Rattle.rules.specs.Millimetres.{word_64, millimetre_text, Figured, Spelled, Told, FigureOf, TextOf}
use Rattle.rules.proofs.Board.{cell_of, column_below, row_below}
use Rattle.rules.proofs.TieRule.{least_unique, map_site_unique, cost_map_site_unique}
use Rattle.rules.proofs.Changeover.{changeover_unique}
use Rattle.rules.proofs.Knob.{good_k_unique, opened_unique}
use Rattle.rules.proofs.FloatWord.{one_value}
use Rattle.rules.proofs.Millimetres.{root_unique, figure_word_unique, text_length}
use Rattle.rules.proofs.BenchFile.{farthest_unique}
use Rattle.rules.proofs.Lane.{best_unique_words}
use Rattle.rules.proofs.Refusals.{clear_accepted}

-- two calls of one table of rows answer one number, and where it is 0 what they leave agrees
pub agreed : {rows : List Row} {n n' : ℕ} {Kept Kept' Done Done' Same : Type 0} → Call rows n Kept Done
    → Call rows n' Kept' Done' → (Done → Done' → Same) → (n ≡ n') × (n ≡ 0 → Same)
agreed p q one =
    (p.answered ∙ sym q.answered, λ z. one (p.done z) (q.done (q.answered ∙ sym p.answered ∙ z)))

-- what a refusal leaves as it was, and an accepted call leaves in one way, is left in one way
pub settled : {A : Type 0} {n n' : ℕ} {before after after' : A} → n ≡ n' → (n ≢ 0 → after ≡ before)
    → (n' ≢ 0 → after' ≡ before) → (n ≡ 0 → after ≡ after') → after ≡ after'
settled {n = n} same kept kept' done =
    by_cases (ℕ_discrete n 0) done (λ z. kept z ∙ sym (kept' (λ e. z (same ∙ e))))

-- so two calls whose refusals keep one list answer one number and leave that list in one way
after_pinned : {A : Type 0} {rows : List Row} {n n' : ℕ} {before after after' : A} {Done Done' : Type 0}
    → Call rows n (after ≡ before) Done → Call rows n' (after' ≡ before) Done' → (Done → Done' → after ≡ after')
    → (n ≡ n') × (after ≡ after')
after_pinned p q one =
    let (same, left) = agreed p q one in
    (same, settled same p.refused q.refused left)

-- what every cell of the board has, every number below w·h has
pub each_cell : (w : ℕ) {h : ℕ} (P : ℕ → Type 0) → ((x y : ℕ) → x < w → y < h → P (cell w x y)) → (c : ℕ) → c < w * h → P c
each_cell zero P all c l = absurd (omega arith)
each_cell (suc w) P all c l =
    rw (cell_of (suc w) c) at (all _ _ (column_below c (omega arith)) (row_below (suc w) l))

-- two lists that agree at every place below n, and from there on are one list as it was, are equal
pub lists_pinned : {n : ℕ} {before a b : List ℕ} → Beyond n before a → Beyond n before b
    → ((k : ℕ) → k < n → get_or a k 0 ≡ get_or b k 0) → a ≡ b
lists_pinned {n} {before} {a} {b} p q below =
    ext_get_or 0 a b (cc) (λ k l. by_cases (dec_lt k n) (below k) (λ far. beyond k (omega arith)))
  where
    beyond : (k : ℕ) → n ≤ k → get_or a k 0 ≡ get_or b k 0
    beyond k l = let e : n + (k - n) ≡ k = omega arith in cc (get_or-drop n a (k - n) 0, get_or-drop n b (k - n) 0)

-- at each cell of the board at most one word is so
abbrev pub One : ℕ → ℕ → (ℕ → ℕ → ℕ → Type 0) → Type 0
One w h Word = (x y d d' : ℕ) → x < w → y < h → Word x y d → Word x y d' → d ≡ d'

-- so a list whose words are so at every cell, and which beyond the board is as it was, is one list
board_pinned : {w h : ℕ} {Word : ℕ → ℕ → ℕ → Type 0} {before a b : List ℕ} → One w h Word
    → Beyond (w * h) before a → ((x y : ℕ) → x < w → y < h → Word x y (get_or a (cell w x y) 0))
    → Beyond (w * h) before b → ((x y : ℕ) → x < w → y < h → Word x y (get_or b (cell w x y) 0)) → a ≡ b
board_pinned {w} {a = a} {b = b} one p words q words' =
    lists_pinned p q
    (each_cell w (λ (c : ℕ). get_or a c 0 ≡ get_or b c 0) (λ x y l m. one x y _ _ l m (words x y l m) (words' x y l m)))

-- where each cell has one map word and one site word, an accepted call leaves the three buffers in one way
pub map_pinned : {w h : ℕ} {Word Named : ℕ → ℕ → ℕ → Type 0} {before after after' : Buffers}
    → One w h Word → One w h Named → MapAfter w h Word Named before after → MapAfter w h Word Named before after'
    → after ≡ after'
map_pinned word named p q =
    let distances = board_pinned word p.distances_beyond p.words q.distances_beyond q.words in
    let sites = board_pinned named p.sites_beyond p.names q.sites_beyond q.names in
    let scratch =
    lists_pinned p.scratch_beyond q.scratch_beyond (λ k l. p.zeroed k l ∙ sym (q.zeroed k l)) in
    λ i. record { distances = distances i; sites = sites i; scratch = scratch i }

-- a picture has one site word at each cell, by the tie rule or the mark
site_word_unique : {kind d1 d2 w h : ℕ} {picture : List ℕ} {x y s s' : ℕ}
    → SiteWord kind d1 d2 w h picture x y s → SiteWord kind d1 d2 w h picture x y s' → s ≡ s'
site_word_unique {kind} a b =
    by_cases (ℕ_discrete kind chamfer_kind) (λ e. a.unnamed e ∙ sym (b.unnamed e))
    (λ e. map_site_unique (a.named e) (b.named e))

-- an accepted picture call leaves the buffers in one way
picture_after_pinned : {w h kind d1 d2 : ℕ} {picture : List ℕ} {before after after' : Buffers}
    → PictureAfter w h kind d1 d2 picture before after → PictureAfter w h kind d1 d2 picture before after'
    → after ≡ after'
picture_after_pinned p q = map_pinned (λ x y d d' l m. least_unique) (λ x y s s' l m. site_word_unique) p q

-- a picture call answers one number and leaves the buffers in one way
pub picture_pinned : {w h kind d1 d2 : ℕ} {picture : List ℕ} {before after after' : Buffers} {n n' : ℕ}
    → PictureCall w h kind d1 d2 picture before n after → PictureCall w h kind d1 d2 picture before n' after'
    → (n ≡ n') × (after ≡ after')
picture_pinned p q = after_pinned p q picture_after_pinned

-- a cost call answers one number and leaves the buffers in one way
pub cost_pinned : {w h kind : ℕ} {costs : List ℕ} {before after after' : Buffers} {n n' : ℕ}
    → CostCall w h kind costs before n after → CostCall w h kind costs before n' after'
    → (n ≡ n') × (after ≡ after')
cost_pinned p q =
    after_pinned p q (map_pinned (λ x y d d' l m. least_unique) (λ x y s s' l m. cost_map_site_unique))

-- an accepted lane call finds one width and one number of cells, and leaves the path and the buffers in one way
lane_after_pinned : {w h : ℕ} {picture : List ℕ} {from to : ℕ} {before after after' : Buffers}
    {path exit exit' : List ℕ} {broad broad' cells cells' : ℕ}
    → LaneAfter w h picture from to before path broad cells after exit
    → LaneAfter w h picture from to before path broad' cells' after' exit'
    → (broad ≡ broad') × (cells ≡ cells') × (after ≡ after') × (exit ≡ exit')
lane_after_pinned {w} {h} {exit = exit} {exit' = exit'} {cells = cells} {cells' = cells'} p q =
    let f = p.found in
    let g = q.found in
    let words : (c : ℕ) → c < w * h → f.word c ≡ g.word c =
    each_cell w _ (λ x y l m. least_unique (f.word_least x y l m) (g.word_least x y l m)) in
    let (lane, broad) = best_unique_words words f.best g.best in
    let same : cells ≡ cells' = sym p.cells_is ∙ ap length lane ∙ q.cells_is in (
      f.width_is ∙ broad ∙ sym g.width_is,
      same,
      picture_after_pinned p.map_after q.map_after,
      lists_pinned p.path_beyond q.path_beyond (path lane same),
    )
  where
    path : take cells exit ≡ take cells' exit' → cells ≡ cells' → (k : ℕ) → k < w * h → get_or exit k 0 ≡ get_or exit' k 0
    path lane same k l =
        by_cases (dec_lt k cells)
        (λ on. cc (get_or-take cells exit k 0 on, get_or-take cells' exit' k 0 (omega arith)))
        (λ off. p.marked k (omega arith) l ∙ sym (q.marked k (omega arith) l))

-- a lane call answers one number and leaves every list in one way; where the number is 0, width and length are one too
pub lane_pinned : {w h : ℕ} {picture : List ℕ} {from to : ℕ} {before after after' : Buffers}
    {path exit exit' : List ℕ} {n n' broad broad' cells cells' : ℕ}
    → LaneCall w h picture from to before path n broad cells after exit
    → LaneCall w h picture from to before path n' broad' cells' after' exit'
    → (n ≡ n') × (after ≡ after') × (exit ≡ exit') × (n ≡ 0 → (broad ≡ broad') × (cells ≡ cells'))
lane_pinned p q =
    let (same, one) = agreed p q lane_after_pinned in (
      same,
      settled same (λ z. (p.refused z).0) (λ z. (q.refused z).0) (λ z. (one z).2),
      settled same (λ z. (p.refused z).1) (λ z. (q.refused z).1) (λ z. (one z).3),
      λ z. ((one z).0, (one z).1),
    )

-- the opening answers one number, and where it is 0 two whole numbers
pub opening_pinned : {s : Setting} {n n' a a' b b' : ℕ} → OpeningCall s n a b → OpeningCall s n' a' b'
    → (n ≡ n') × (n ≡ 0 → (a ≡ a') × (b ≡ b'))
opening_pinned p q = agreed p q opened_unique

-- over slices of one length an accepted clear map call leaves the bytes in one way
clear_after_pinned : {s : Setting} {squares clear exit exit' : List ℕ}
    → ClearAfter s squares clear exit → ClearAfter s squares clear exit' → length squares ≡ length clear → exit ≡ exit'
clear_after_pinned {squares = squares} {exit = exit} {exit' = exit'} p q long =
    let (a, b) = opened_unique p.opened q.opened in
    ext_get_or 0 exit exit' (p.as_long ∙ sym q.as_long)
    (λ k l. let inside : k < length squares = omega arith in cc (p.bytes k inside, q.bytes k inside))

-- a clear map call answers one number and leaves the bytes in one way
pub clear_pinned : {s : Setting} {squares clear exit exit' : List ℕ} {n n' : ℕ}
    → ClearCall s squares clear n exit → ClearCall s squares clear n' exit' → (n ≡ n') × (exit ≡ exit')
clear_pinned {s} {squares} {clear} p q =
    let (same, one) = agreed p q clear_after_pinned in
    let accepted = clear_accepted s (length squares) (length clear) in
    (same, settled same p.refused q.refused (λ z. one z (accepted (sym p.answered ∙ z)).slices.as_long))

-- the changeover's entry answers one number, and where it is 0 one whole number
pub changeover_pinned : {i u a b n n' : ℕ} {p p' : ℤ} → ChangeoverCall i u a b n p → ChangeoverCall i u a b n' p'
    → (n ≡ n') × (n ≡ 0 → p ≡ p')
changeover_pinned c e = agreed c e changeover_unique

-- a bench file has one number of bores, one farthest word and one cell of it
read_pinned : {bytes : List ℕ} {sites sites' farthest farthest' cell_number cell_number' : ℕ}
    → BenchRead bytes sites farthest cell_number → BenchRead bytes sites' farthest' cell_number'
    → (sites ≡ sites') × (farthest ≡ farthest') × (cell_number ≡ cell_number')
read_pinned p q =
    let (word, number) = farthest_unique p.farthest_is q.farthest_is in
    (p.sites_is ∙ sym q.sites_is, word, number)

-- the bench file's function answers one number, and where it is 0 three numbers
pub bench_pinned : {bytes : List ℕ} {n n' sites sites' farthest farthest' cell_number cell_number' : ℕ}
    → BenchCall bytes n sites farthest cell_number → BenchCall bytes n' sites' farthest' cell_number'
    → (n ≡ n') × (n ≡ 0 → (sites ≡ sites') × (farthest ≡ farthest') × (cell_number ≡ cell_number'))
bench_pinned p q = agreed p q read_pinned

-- the number of a row is that of one refusal: the one that stands there in this list
abbrev numbered : List Refusal
numbered =
    Sides ∷ Sides ∷ Kind ∷ Weights ∷ BadBuffers ∷ Cell ∷ NoBore ∷ Ends ∷ BadSetting ∷ BadChangeover ∷ FileLength ∷ OffBoard
    ∷ Line ∷ BadWord ∷ []

abbrev refusal_of : ℕ → Refusal
refusal_of n = get_or numbered n Sides

refused_of : (r : Refusal) → refusal_of (refusal_number r) ≡ r
refused_of = elim [ Sides ↦ refl | Kind ↦ refl | Weights ↦ refl | BadBuffers ↦ refl | Cell ↦ refl | NoBore ↦ refl | Ends ↦ refl | BadSetting ↦ refl | BadChangeover ↦ refl | FileLength ↦ refl | OffBoard ↦ refl | Line ↦ refl | BadWord ↦ refl ]

pub refusal_pinned : {r r' : Refusal} → refusal_number r ≡ refusal_number r' → r ≡ r'
refusal_pinned {r} {r'} same = sym (refused_of r) ∙ ap refusal_of same ∙ refused_of r'

-- no refusal has the number 0
pub not_zero : (r : Refusal) → 0 < refusal_number r
not_zero = elim [ Sides ↦ omega arith | Kind ↦ omega arith | Weights ↦ omega arith | BadBuffers ↦ omega arith | Cell ↦ omega arith | NoBore ↦ omega arith | Ends ↦ omega arith | BadSetting ↦ omega arith | BadChangeover ↦ omega arith | FileLength ↦ omega arith | OffBoard ↦ omega arith | Line ↦ omega arith | BadWord ↦ omega arith ]

-- two answers of one number are one, if their values are where both are accepted
pub answer_pinned : {A : Type 0} (r r' : Result A Refusal) → number_of r ≡ number_of r'
    → ((a a' : A) → r ≡ Ok a → r' ≡ Ok a' → a ≡ a') → r ≡ r'
answer_pinned (Ok a) (Ok a') same one = ap Ok (one a a' refl refl)
answer_pinned (Ok a) (Err e) same one = absurd (omega (arith, same, not_zero e))
answer_pinned (Err e) (Ok a) same one = absurd (omega (arith, same, not_zero e))
answer_pinned (Err e) (Err e') same one = ap Err (refusal_pinned same)

-- two stops of one number are one
pub stop_pinned : (s s' : Option Refusal) → stop_number s ≡ stop_number s' → s ≡ s'
stop_pinned None None same = refl
stop_pinned None (Some r) same = absurd (omega (arith, same, not_zero r))
stop_pinned (Some r) None same = absurd (omega (arith, same, not_zero r))
stop_pinned (Some r) (Some r') same = ap Some (refusal_pinned same)

-- a value of an accepted answer
pub valued : {A B : Type 0} {r r' : Result A Refusal} {a a' : A} (f : Result A Refusal → B) → f r ≡ f r' → r ≡ Ok a
    → r' ≡ Ok a' → f (Ok a) ≡ f (Ok a')
valued f v e e' = sym (ap f e) ∙ v ∙ ap f e'

-- the opening has one answer
pub opening_answer_pinned : {s : Setting} (r r' : Result Opening Refusal)
    → OpeningCall s (number_of r) (opening_a r) (opening_b r)
    → OpeningCall s (number_of r') (opening_a r') (opening_b r') → r ≡ r'
opening_answer_pinned r r' p q =
    let (same, one) = opening_pinned p q in
    answer_pinned r r' same
    (λ o o' e e'. let (a, b) = one (ap number_of e) in
    λ i. record { a = valued opening_a a e e' i; b = valued opening_b b e e' i })

-- the changeover's entry has one answer
pub changeover_answer_pinned : {i u a b : ℕ} (r r' : Result ℤ Refusal)
    → ChangeoverCall i u a b (number_of r) (changeover_at r)
    → ChangeoverCall i u a b (number_of r') (changeover_at r') → r ≡ r'
changeover_answer_pinned r r' c d =
    let (same, one) = changeover_pinned c d in
    answer_pinned r r' same (λ p p' e e'. valued changeover_at (one (ap number_of e)) e e')

-- a lane that was found has a cell
pub cells_not_zero : {w h : ℕ} {picture : List ℕ} {from to : ℕ} {before after : Buffers} {path exit : List ℕ} {broad : ℕ}
    → LaneAfter w h picture from to before path broad 0 after exit → ⊥
unfolding Lane
cells_not_zero l = l.found.best.lane

-- the lane entry has one answer, and leaves the path and the buffers in one way
pub lane_answer_pinned : {w h : ℕ} {picture : List ℕ} {from to : ℕ} {before after after' : Buffers}
    {path exit exit' : List ℕ} (r r' : Result Course Refusal)
    → LaneCall w h picture from to before path (number_of r) (lane_width r) (lane_cells r) after exit
    → LaneCall w h picture from to before path (number_of r') (lane_width r') (lane_cells r') after' exit'
    → (r ≡ r') × (after ≡ after') × (exit ≡ exit')
lane_answer_pinned r r' p q =
    let (same, buffers, path, one) = lane_pinned p q in
    let answer = answer_pinned r r' same
    (λ l l' e e'. let (broad, cells) = one (ap number_of e) in
    λ i. record { width = valued lane_width broad e e' i; cells = valued lane_cells cells e e' i }) in
    (answer, buffers, path)

-- a bored cell is counted
counted : (picture : List ℕ) (c : ℕ) → get_or picture c 0 ≡ 1 → 0 < bores picture
counted [] c e = absurd (omega arith)
counted (b ∷ bs) zero e = rw e (omega arith)
counted (b ∷ bs) (suc c) e = omega (arith, counted bs c e)

-- a bench file that was read has a bored cell
pub sites_not_zero : {bytes : List ℕ} {farthest number : ℕ} → BenchRead bytes 0 farthest number → ⊥
sites_not_zero {bytes} r =
    let a = r.farthest_is.attained in
    omega (arith, r.sites_is, counted (bored_by bytes) (cell bench_side a.i a.j) a.feature)

-- the bench file's function has one answer
pub bench_answer_pinned : {bytes : List ℕ} (r r' : Result Reading Refusal)
    → BenchCall bytes (number_of r) (bench_sites r) (bench_farthest r) (bench_cell r)
    → BenchCall bytes (number_of r') (bench_sites r') (bench_farthest r') (bench_cell r') → r ≡ r'
bench_answer_pinned r r' p q =
    let (same, one) = bench_pinned p q in
    answer_pinned r r' same
    (λ b b' e e'. let (sites, farthest, cell) = one (ap number_of e) in
    λ i. record {
      sites = valued bench_sites sites e e' i;
      farthest = valued bench_farthest farthest e e' i;
      cell = valued bench_cell cell e e' i;
    })

-- a refusal's line is its number's alone
refused_line : (n s s' f f' c c' : ℕ) → n ≢ 0 → text n s f c ≡ text n s' f' c'
refused_line zero s s' f f' c c' some = absurd (some refl)
refused_line (suc n) s s' f f' c c' some = refl

-- one file is printed as one text
pub bench_text_pinned : {bytes output output' : List ℕ} → BenchPrints bytes output → BenchPrints bytes output'
    → output ≡ output'
bench_text_pinned p q =
    let (n, rest) = bench_pinned p.call q.call in
    by_cases (ℕ_discrete p.number 0)
    (λ z.
    let (a, b, c) = rest z in
    let same : text p.number p.sites p.farthest p.cell_number
    ≡ text q.number q.sites q.farthest q.cell_number =
    rw (n, a, b, c) in
    p.output_is ∙ same ∙ sym q.output_is)
    (λ some. p.output_is ∙ refused_line p.number _ q.sites _ q.farthest _ q.cell_number some
    ∙ ap (λ k. text k q.sites q.farthest q.cell_number) n ∙ sym q.output_is)

-- a root is told by one word of an f64
figured_pinned : {x : ℕ} {v v' : Float} → Figured x v → Figured x v' → word_64 v ≡ word_64 v'
figured_pinned p q =
    let same : p.n ≡ q.n = root_unique p.root q.root in
    figure_word_unique p.n p.figure (rw same q.figure)

-- and by one text, one length and one list
spelled_pinned : {x : ℕ} {before after after' : List ℕ} {count count' : ℕ} → Spelled x before after count
    → Spelled x before after' count' → (count ≡ count') × (after ≡ after')
spelled_pinned p q =
    let same : p.n ≡ q.n = root_unique p.root q.root in
    let count = p.text.count_is ∙ ap (λ n. length (millimetre_text n)) same ∙ sym q.text.count_is in
    (count, cc (p.text.after_is, q.text.after_is))

-- a pitch opens to one number, so what is told of it is pinned where what is told of a number is
told_pinned : {pitch : Float} {under : ℕ → ℕ} {Tells Tells' : ℕ → Type 0} {Same : Type 0}
    → ((x : ℕ) → Tells x → Tells' x → Same) → Told pitch under Tells → Told pitch under Tells' → Same
told_pinned {under = under} {Tells' = Tells'} one p q =
    let same : p.a ≡ q.a = good_k_unique p.pitch_good q.pitch_good in
    one (under p.a) p.tells (subst (λ a. Tells' (under a)) (sym same) q.tells)

-- a figure's call answers one number, and where it is 0 an f64 of one word
pub figure_pinned : {under : ℕ → ℕ} {pitch v v' : Float} {n n' : ℕ} → FigureOf under pitch n v → FigureOf under pitch n' v'
    → (n ≡ n') × (n ≡ 0 → word_64 v ≡ word_64 v')
figure_pinned p q = agreed p q (told_pinned (λ x. figured_pinned))

-- a text's call answers one number and leaves the bytes in one way; where the number is 0, the length is one too
pub text_pinned : {under : ℕ → ℕ} {pitch : Float} {before after after' : List ℕ} {n n' count count' : ℕ}
    → TextOf under pitch before n count after → TextOf under pitch before n' count' after'
    → (n ≡ n') × (after ≡ after') × (n ≡ 0 → count ≡ count')
text_pinned p q =
    let (same, one) = agreed p q (told_pinned (λ x. spelled_pinned)) in
    (same, settled same p.refused q.refused (λ z. (one z).1), λ z. (one z).0)

-- the figure's entry has one answer. What it answers fits the format, as every f64 does (`fits`).
pub figure_answer_pinned : {under : ℕ → ℕ} {pitch : Float} (r r' : Result Float Refusal)
    → fits binary64 (figure_out r) ≡ true → fits binary64 (figure_out r') ≡ true
    → FigureOf under pitch (number_of r) (figure_out r) → FigureOf under pitch (number_of r') (figure_out r')
    → r ≡ r'
figure_answer_pinned r r' f f' p q =
    let (same, one) = figure_pinned p q in
    answer_pinned r r' same
    (λ v v' e e'. valued figure_out (one_value binary64 _ _ f f' (one (ap number_of e))) e e')

-- a text that was written has a byte
pub text_not_empty : {pitch : Float} {under : ℕ → ℕ} {before after : List ℕ}
    → Told pitch under (λ x. Spelled x before after 0) → ⊥
text_not_empty t =
    let w = t.tells in
    omega (arith, w.text.count_is, text_length w.n)

-- the text's entry has one answer, and leaves the bytes in one way
pub text_answer_pinned : {under : ℕ → ℕ} {pitch : Float} {before after after' : List ℕ} (r r' : Result ℕ Refusal)
    → TextOf under pitch before (number_of r) (text_count r) after
    → TextOf under pitch before (number_of r') (text_count r') after' → (r ≡ r') × (after ≡ after')
text_answer_pinned r r' p q =
    let (same, after, one) = text_pinned p q in
    (answer_pinned r r' same (λ c c' e e'. valued text_count (one (ap number_of e)) e e'), after)
