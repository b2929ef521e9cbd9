-- Every call in figures is a call by the rules. Of each there is a test that computes, together with the proof that the
-- call holds where the test passes (`Test`); the tests of all figures pass.
--
-- A call is tested by its number: what is done if it is 0, else that everything is as it was. What a map call leaves is
-- tested cell by cell and word by word, with the tests of the samples for a map word, a site and a lane. What a test
-- compares is not written again but read from the rule (`_`, and implicit arguments): so a test follows a rule that is
-- bent, and no longer passes. The column that a row line takes is that of its site word. What convinces of the lane are the
-- labels of two floods, given here. The whole numbers of a setting are those that its words leave (`k_of`), and a root is
-- found digit by digit before it is tested. A
-- board of 64 by 64 is too large for these tests; the numbers of the bench file are shown by hand: it bores the one cell
-- (0, 0), so that the word of (x, y) is x² + y². Assumes nothing.
use mathlib.Core.Path.{◌≡◌, refl, sym}
use mathlib.Core.Logic.{◌≢◌, by_cases}
use mathlib.Core.Bool.{true, not, cond, ◌&&◌}
use mathlib.Core.List.{List, [], ◌∷◌}
use Prim.Native.Nat.{ℕ, zero, suc, ◌+◌, ◌-◌, ◌*◌, ◌^◌, ◌≤◌, ◌<◌}
use native.Mathlib.Decide.{dec_le}
use native.Mathlib.Nat.{le_refl}
use native.Mathlib.Omega.{arith}
use lib.Dec.{leb, eqb, leb→le}
use lib.IntN.{ℤ}
use lib.Ieee.{Float, to_bits, size}
use lib.ListN.{length, drop}
use mir.Facts.{not_T, and_yes, eqb_no, no_eqb}
use Rattle.rules.specs.declared.Setting.{Setting}
use Rattle.rules.specs.Limits.{mark}
use Rattle.rules.specs.Board.{cell, column, away, Bored, Unmarked}
use Rattle.rules.specs.Measures.{chamfer, chamfer_kind}
use Rattle.rules.specs.Columns.{Nearest, ColumnWord, RowWord}
use Rattle.rules.specs.Tie.{Least, MapSite, CostMapSite}
use Rattle.rules.specs.Changeover.{Changeover}
use Rattle.rules.specs.Knob.{Good, pitch_word, radius_word}
use Rattle.rules.specs.Lane.{WidestLane}
use Rattle.rules.specs.Answers.{number_of, bench_sites, bench_farthest, bench_cell}
use Rattle.rules.specs.BenchFile.{bored_by, BenchWord, Farthest}
use Rattle.rules.specs.Refusals.{Row, row, answer, scratch_words, clear_rows, opening_rows}
use Rattle.rules.specs.Refusals.{bad_sides, bad_kind, bad_weights, bad_buffers, bad_path, bad_slices, bad_byte}
use Rattle.rules.specs.Refusals.{bad_cost, no_bore, all_marked, bad_ends, bad_changeover, bad_length}
use Rattle.rules.specs.Refusals.{bad_line, bad_word, short_text, figure_rows, text_rows}
use Rattle.rules.specs.Calls.{Call, Buffers, Beyond, MapAfter, SiteWord, LaneAfter, Opened, ClearAfter, BenchRead}
use Rattle.rules.specs.Slices.{allowed, Among, SliceAfter, Chain}
use Rattle.rules.specs.Figures.{Figure, picture_call, cost_call, lane_call, slice_call, chain, opening_call}
use Rattle.rules.specs.Figures.{clear_call, changeover_call, bench_call, Link, budgets, left, FigureHolds, AllHold}
use Rattle.rules.specs.Figures.{millimetres_call, text_call, figures}
use Rattle.rules.specs.Millimetres.{word_32, word_64, Root, FigureWord, Figured, Spelled, Told}
use Rattle.rules.proofs.Calls.{refused_call, made_call}
use Rattle.rules.proofs.LaneTest.{Test, never, so, both, given, below, at_most, if_at_most, same, if_same}
use Rattle.rules.proofs.Samples.{least, least_means, bored, bored_tests, unmarked, unmarked_tests}
use Rattle.rules.proofs.Samples.{map_site, map_site_means, cost_map_site, cost_map_site_means}
use Rattle.rules.proofs.Samples.{changes, changes_means, Floods, floods, goes, goes_means}
use Rattle.rules.proofs.Farthest.{first_only, square_most}
use Rattle.rules.proofs.Edges.{fits, k_of, good_for, good_for_means, found, opens, opens_means, bad, bad_is}
use Rattle.rules.proofs.Edges.{bad_pitch_is}

-- nothing is to be tested
abbrev nothing : Test (Unit {0})
nothing = record { passes = true; sound = λ t. t }

-- two numbers differ
abbrev differ : (a b : ℕ) → Test (a ≢ b)
differ a b = record { passes = not (eqb a b); sound = eqb_no }

-- a condition holds if two numbers differ
abbrev if_differ : {B : Type 0} (a b : ℕ) → Test B → Test (a ≢ b → B)
if_differ a b t = given (not (eqb a b)) no_eqb t

-- two lists are the same
abbrev same_list : (l m : List ℕ) → Test (l ≡ m)
same_list [] [] = record { passes = true; sound = λ t. refl }
same_list [] (b ∷ m) = never
same_list (a ∷ l) [] = never
same_list (a ∷ l) (b ∷ m) = so (both (same a b) (same_list l m)) (λ t i. t.0 i ∷ t.1 i)

-- buffers are the same
abbrev same_buffers : (after before : Buffers) → Test (after ≡ before)
same_buffers after before =
    so (both (same_list after.distances before.distances) (both (same_list after.sites before.sites)
    (same_list after.scratch before.scratch)))
    (λ t i. record { distances = t.0 i; sites = t.1.0 i; scratch = t.1.1 i })

-- a call whose number is the answer of its rows: what was lent is kept, or what is to be done is done
abbrev ends : {rows : List Row} {Kept Done : Type 0} (n : ℕ) → Test (n ≡ answer rows) → Test Kept → Test Done
    → Test (Call rows n Kept Done)
ends zero is kept done = so (both is done) (λ t. made_call t.0 t.1)
ends (suc n) is kept done = so (both is kept) (λ t. refused_call t.0 (λ z. absurd (omega arith)) t.1)

-- a list is as it was from place n on, and as long
abbrev beyond : (n : ℕ) (before after : List ℕ) → Test (Beyond n before after)
beyond n before after =
    so (both (same (length after) (length before)) (same_list (drop n after) (drop n before)))
    (λ t. record { as_long = t.0; untouched = t.1 })

-- every cell of a board passes
abbrev on_board : {P : ℕ → ℕ → Type 0} (w h : ℕ) → ((x y : ℕ) → Test (P x y))
    → Test ((x y : ℕ) → x < w → y < h → P x y)
on_board w h t = so (below w (λ x. below h (t x))) (λ f x y l m. f x l y m)

-- what a map call leaves, by a test of its words and one of its sites
abbrev map_after : {w h : ℕ} {Word Named : ℕ → ℕ → ℕ → Type 0} {before after : Buffers}
    → ((x y d : ℕ) → Test (Word x y d)) → ((x y s : ℕ) → Test (Named x y s)) → Test (MapAfter w h Word Named before after)
map_after {w} {h} word named =
    so (both (both (on_board w h (λ x y. word x y _)) (both (on_board w h (λ x y. named x y _))
    (below (scratch_words w h) (λ k. same _ _)))) (both (beyond _ _ _) (both (beyond _ _ _) (beyond _ _ _))))
    (λ t. record {
      words = t.0.0;
      names = t.0.1.0;
      zeroed = t.0.1.1;
      distances_beyond = t.1.0;
      sites_beyond = t.1.1.0;
      scratch_beyond = t.1.1.1;
    })

module _ {w h : ℕ} {word : ℕ → ℕ → ℕ} {n : ℕ} where
  -- n is the least word of the bored cells of a picture
  abbrev bore : (picture : List ℕ) → Test (Least w h (Bored w picture) word n)
  bore picture = record {
    passes = least w h (bored w picture) word n;
    sound = least_means w h (bored w picture) (bored_tests w picture) word n;
  }

  -- n is the least word of the unmarked cells of a cost picture
  abbrev cost : (costs : List ℕ) → Test (Least w h (Unmarked w costs) word n)
  cost costs = record {
    passes = least w h (unmarked w costs) word n;
    sound = least_means w h (unmarked w costs) (unmarked_tests w costs) word n;
  }

-- n is the site of a picture at (x, y), by the tie rule
abbrev named : {kind d1 d2 w h : ℕ} {picture : List ℕ} {x y n : ℕ} → Test (MapSite kind d1 d2 w h picture x y n)
named {kind} {d1} {d2} {w} {h} {picture} {x} {y} {n} = record {
  passes = map_site w h kind d1 d2 picture x y n;
  sound = map_site_means w h kind d1 d2 picture x y n;
}

-- n is the site word of a picture there
abbrev site : {kind d1 d2 w h : ℕ} {picture : List ℕ} {x y n : ℕ} → Test (SiteWord kind d1 d2 w h picture x y n)
site {kind} =
    so (both (if_differ kind chamfer_kind named) (if_same kind chamfer_kind (same _ _)))
    (λ t. record { named = t.0; unnamed = t.1 })

-- n is the site of a cost picture there
abbrev cost_site : {kind w h : ℕ} {costs : List ℕ} {x y n : ℕ} → Test (CostMapSite kind w h costs x y n)
cost_site {kind} {w} {h} {costs} {x} {y} {n} = record {
  passes = cost_map_site w h kind costs x y n;
  sound = cost_map_site_means w h kind costs x y n;
}

-- the cells are the widest lane, by the words of the board and the labels of two floods
abbrev widest : {w h : ℕ} {picture : List ℕ} {from to broad : ℕ} {cells : List ℕ} (f : Floods)
    → Test (WidestLane w h picture from to broad cells)
widest {w} {h} {picture} {from} {to} {broad} {cells} f = record {
  passes = goes w h picture from to broad cells f;
  sound = goes_means w h picture from to broad cells f;
}

-- what a lane call leaves
abbrev lane_after : {w h : ℕ} {picture : List ℕ} {from to : ℕ} {before : Buffers} {path : List ℕ} {broad cells : ℕ}
    {after : Buffers} {path' : List ℕ} (labels wider : List ℕ)
    → Test (LaneAfter w h picture from to before path broad cells after path')
lane_after {w} {h} {picture} {cells = cells} {after = after} labels wider =
    so (both (both (widest (floods after.distances labels wider)) (same _ _))
    (both (below (w * h) (λ k. if_at_most cells k (same _ _)))
    (both (beyond _ _ _) (map_after (λ x y d. bore picture) (λ x y s. site)))))
    (λ t. record {
      found = t.0.0;
      cells_is = t.0.1;
      marked = λ k l m. t.1.0 k m l;
      path_beyond = t.1.1.0;
      map_after = t.1.1.1;
    })

-- a condition holds of line k if it is one of those from `line` up to `next`
abbrev if_among : {B : Type 0} (line next k : ℕ) → Test B → Test (Among line next k → B)
if_among line next k t = so (if_at_most line k (if_at_most (suc k) next t)) (λ f a. f a.0 a.1)

-- a condition holds of line k if it is none of them
abbrev if_not_among : {B : Type 0} (line next k : ℕ) → Test B → Test ((Among line next k → ⊥) → B)
if_not_among line next k t =
    given (not (leb line k && leb (suc k) next))
    (λ other. not_T (leb line k && leb (suc k) next) (λ u.
    let (from, to) = and_yes (leb line k) (leb (suc k) next) u in
    other (leb→le line k from, leb→le (suc k) next to)))
    t

module _ (w : ℕ) (picture : List ℕ) (x : ℕ) {h : ℕ} {rank : ℕ → ℕ} where
  -- j is the nearest bored row of the column x
  abbrev nearest_row : (j : ℕ) → Test (Nearest h (Bored w picture x) rank j)
  nearest_row j =
      so (both (both (at_most (suc j) h) (same _ _)) (both (below h (λ j'. if_same _ _ (at_most (rank j) (rank j'))))
      (below h (λ j'. if_same _ _ (if_same (rank j') (rank j) (at_most j j'))))))
      (λ t. record { row_in = t.0.0; feature = t.0.1; nearest = t.1.0; upper = t.1.1 })

  -- the word is that of the column
  abbrev column_word : (word : ℕ) → Test (ColumnWord h (Bored w picture x) rank word)
  column_word word =
      so (both (if_differ word mark (nearest_row word)) (if_same word mark (below h (λ j. if_same _ _ never))))
      (λ t. record { named = t.0; empty = t.1 })

-- d and the site are what a row line makes of its words
abbrev row_word : {w : ℕ} {combine : ℕ → ℕ → ℕ} {words value : ℕ → ℕ} {x : ℕ} (d site : ℕ)
    → Test (RowWord w combine words value x d site)
row_word {w} {combine} {words} {value} {x} d site =
    let i : ℕ = column w site in
    so (both (both (at_most (suc i) w) (differ (words i) mark)) (both (both (same _ _) (same _ _))
    (both (below w (λ i'. if_differ (words i') mark (at_most d _)))
    (below w (λ i'. if_differ (words i') mark (if_same _ d (at_most i i')))))))
    (λ t. record {
      i = i;
      column_in = t.0.0;
      unmarked = t.0.1;
      word_is = t.1.0.0;
      site_is = t.1.0.1;
      least = t.1.1.0;
      least_column = t.1.1.1;
    })

-- what a slice call has done whose start refuses nothing
abbrev slice_after : {w h kind line budget : ℕ} {picture : List ℕ} {before : Buffers} {number finished next : ℕ}
    {after : Buffers} → Test (SliceAfter w h kind line budget picture before number finished next after)
slice_after {w} {h} {line = line} {budget} {picture} {number = number} {finished} {next} =
    so (both (both (both (at_most finished (allowed w h line budget)) (same _ _))
    (both (below next (λ k. if_at_most line k (same _ _)))
    (both (if_same finished (allowed w h line budget) (same _ _))
    (if_at_most (suc finished) (allowed w h line budget) (both (same _ _) (differ number 0))))))
    (both (both (on_board w h (λ x y. if_among line next x (column_word w picture x _)))
    (on_board w h (λ x y. if_among line next (w + y) (row_word _ _))))
    (both (both (on_board w h (λ x y. if_not_among line next x (same _ _)))
    (on_board w h (λ x y. if_not_among line next (w + y) (both (same _ _) (same _ _)))))
    (both (below (scratch_words w h) (λ k. if_at_most (w * h) k (same _ _)))
    (both (beyond _ _ _) (both (beyond _ _ _) (beyond _ _ _)))))))
    (λ t. record {
      at_most = t.0.0.0;
      next_is = t.0.0.1;
      none_stops = λ k a. t.0.1.0 k a.1 a.0;
      all_finished = t.0.1.1.0;
      stopped = t.0.1.1.1;
      column_words = t.1.0.0;
      row_words = t.1.0.1;
      other_columns = t.1.1.0.0;
      other_rows = t.1.1.0.1;
      tail_zero = λ k l m. t.1.1.1.0 k m l;
      distances_beyond = t.1.1.1.1.0;
      sites_beyond = t.1.1.1.1.1.0;
      scratch_beyond = t.1.1.1.1.1.1;
    })

-- calls lead from a line and its buffers to another
abbrev chained : (w h kind : ℕ) (picture : List ℕ) (links : List Link) (line : ℕ) (before : Buffers) (end : ℕ)
    → Test (Chain w h kind picture (budgets links) line before end (left before links))
chained w h kind picture [] line before end = so (same end line) (λ e. (e, refl))
chained w h kind picture (s ∷ ss) line before end =
    so (both (ends 0 (same _ _) (both (same _ _) (same_buffers _ _)) slice_after)
    (chained w h kind picture ss s.next s.after end))
    (λ t. (s.finished, s.next, s.after, t.0, t.1))

-- a setting opens to a and b
abbrev opened : {s : Setting} {a b : ℕ} → Test (Opened s a b)
opened {s} {a} {b} = record { passes = opens s a b; sound = opens_means s a b }

-- the k that a word is good for, if for any, looked for below m
abbrev whole : ℕ → ℕ → ℕ
whole word zero = 0
whole word (suc m) = cond (fits word (k_of word m) m) (k_of word m) (whole word m)

-- what a clear map's call leaves
abbrev clear_after : {s : Setting} {squares clear clear' : List ℕ} → Test (ClearAfter s squares clear clear')
clear_after {s} {squares} =
    so (both opened (both (below (length squares) (λ k. same _ _)) (same _ _)))
    (λ t. record {
      a = whole (pitch_word s) 13;
      b = whole (radius_word s) 13;
      opened = t.0;
      bytes = t.1.0;
      as_long = t.1.1;
    })

-- p is the changeover
abbrev changed : {i u a b : ℕ} {p : ℤ} → Test (Changeover i u a b p)
changed {i} {u} {a} {b} {p} = record { passes = changes i u a b p; sound = changes_means i u a b p }

-- the file of the one record (0, 0)
abbrev corner : List ℕ
corner = 0 ∷ 0 ∷ 0 ∷ 0 ∷ []

-- it bores cell 0 and no other
corner_only : (i j : ℕ) → i < 64 → j < 64 → Bored 64 (bored_by corner) i j → (i ≡ 0) × (j ≡ 0)
corner_only i j l m e = first_only {w = 64} {h = 64} l m e

-- so the word of (x, y) is x² + y²
corner_word : (x y d : ℕ) → BenchWord (bored_by corner) x y d → d ≡ x * x + y * y
unfolding away
corner_word x y d t =
    let (e, f) = corner_only t.i t.j t.column_in t.row_in t.feature in
    let dx : away x t.i ≡ x = omega arith in
    let dy : away y t.j ≡ y = omega arith in
    sym (rw (dx, dy) at t.attained)

-- the word of the far corner is the greatest, and no other cell has it
corner_farthest : Farthest (bored_by corner) 7938 4095
unfolding away
corner_farthest = record {
  x = 63;
  y = 63;
  column_in = omega arith;
  row_in = omega arith;
  number_is = refl;
  attained = record {
    i = 0;
    j = 0;
    column_in = omega arith;
    row_in = omega arith;
    feature = refl;
    attained = refl;
    least = λ i j l m k. let (e, f) = corner_only i j l m k in rw (e, f) (le_refl 7938);
  };
  greatest = λ x y d l m t. omega (arith, corner_word x y d t, square_most x 63 (omega arith), square_most y 63 (omega arith));
  least_cell = λ x y l m t. last x y l m (corner_word x y 7938 t);
}
  where
    last : (x y : ℕ) → x < 64 → y < 64 → 7938 ≡ x * x + y * y → 4095 ≤ cell 64 x y
    last x y l m e =
        by_cases (dec_le 63 x)
        (λ a. by_cases (dec_le 63 y) (λ b. omega arith)
        (λ b. absurd (omega (arith, square_most x 63 (omega arith), square_most y 62 (omega arith)))))
        (λ a. absurd (omega (arith, square_most x 62 (omega arith), square_most y 63 (omega arith))))

-- the numbers of a bench file: those of that file alone are known here
abbrev read : {bytes : List ℕ} {sites farthest number : ℕ} → Test (BenchRead bytes sites farthest number)
read {bytes} {sites} {farthest} {number} =
    so (both (both (same_list bytes corner) (same sites 1)) (both (same farthest 7938) (same number 4095)))
    (λ t. rw (t.0.0, t.0.1, t.1.0, t.1.1) (record { sites_is = refl; farthest_is = corner_farthest }))

-- the number of a call that tests a setting is that of its rows
abbrev opening_is : (s : Setting) (n : ℕ) → Test (n ≡ answer (opening_rows s))
opening_is s n = so (same n (answer (row 8 (bad s) ∷ []))) (λ e. rw (bad_is s) e)

abbrev clear_is : (s : Setting) (squares clear n : ℕ) → Test (n ≡ answer (clear_rows s squares clear))
clear_is s squares clear n =
    so (same n (answer (row 4 (bad_slices squares clear) ∷ row 8 (bad s) ∷ []))) (λ e. rw (bad_is s) e)

-- a pitch by itself is good for a
abbrev pitch_opens : {word a : ℕ} → Test (Good word a)
pitch_opens {word} {a} = record { passes = good_for word a; sound = good_for_means word a }

-- the number of a call that tests a pitch is that of its rows
abbrev millimetres_is : (pitch n : ℕ) → Test (n ≡ answer (figure_rows pitch))
millimetres_is pitch n = so (same n (answer (row 8 (not (found pitch)) ∷ []))) (λ e. rw (bad_pitch_is pitch) e)

abbrev text_is : (pitch bytes n : ℕ) → Test (n ≡ answer (text_rows pitch bytes))
text_is pitch bytes n =
    so (same n (answer (row 4 (short_text bytes) ∷ row 8 (not (found pitch)) ∷ []))) (λ e. rw (bad_pitch_is pitch) e)

-- what a test takes for the root, one binary digit after the other: whether it is, the test sees
abbrev root_of : ℕ → ℕ → ℕ → ℕ
root_of zero n x = n
root_of (suc k) n x = root_of k (cond (leb ((n + 2 ^ k) * (n + 2 ^ k)) x) (n + 2 ^ k) n) x

-- n is the root
abbrev rooted : {x n : ℕ} → Test (Root x n)
rooted {x} {n} =
    so (both (at_most (n * n) x) (at_most (suc x) ((n + 1) * (n + 1)))) (λ t. record { within = t.0; greatest = t.1 })

-- the word is that of n
abbrev worded : (word n : ℕ) → Test (FigureWord word n)
worded word zero = same word 0
worded word (suc n) =
    so (both (both (at_most _ (suc n)) (at_most (suc (suc n)) _)) (same word _))
    (λ t. record { m = size (suc n) - 1; power = t.0.0; greatest = t.0.1; word_is = t.1 })

-- a figure tells the root
abbrev figured : {out : Float} (x : ℕ) → Test (Figured x out)
figured {out} x =
    so (both rooted (worded (word_64 out) (root_of 32 0 x))) (λ t. record { n = root_of 32 0 x; root = t.0; figure = t.1 })

-- a text tells it
abbrev spelled : {before after : List ℕ} {count : ℕ} (x : ℕ) → Test (Spelled x before after count)
spelled x =
    so (both rooted (both (same _ _) (same_list _ _)))
    (λ t. record {
      n = root_of 32 0 x;
      root = t.0;
      text = record { count_is = t.1.0; after_is = t.1.1 };
    })

-- a pitch opens, and something is told
abbrev told : {pitch : Float} {under : ℕ → ℕ} {Tells : ℕ → Type 0} → ((x : ℕ) → Test (Tells x))
    → Test (Told pitch under Tells)
told {pitch} test =
    so (both pitch_opens (test _)) (λ t. record { a = whole (word_32 pitch) 13; pitch_good = t.0; tells = t.1 })

-- a figure, with the labels of two floods for a lane
abbrev figure : (labels wider : List ℕ) (f : Figure) → Test (FigureHolds f)
figure labels wider (picture_call w h kind d1 d2 picture before n after) =
    ends _ (same _ _) (same_buffers _ _) (map_after (λ x y d. bore picture) (λ x y s. site))
figure labels wider (cost_call w h kind costs before n after) =
    ends _ (same _ _) (same_buffers _ _) (map_after (λ x y d. cost costs) (λ x y s. cost_site))
figure labels wider (lane_call w h picture from to before path r after path') =
    ends _ (same _ _) (both (same_buffers _ _) (same_list _ _)) (lane_after labels wider)
figure labels wider (slice_call w h kind line budget picture before r after) =
    ends _ (same _ _) (both (same _ _) (same_buffers _ _)) slice_after
figure labels wider (chain w h kind picture before slices) = chained w h kind picture slices 0 before (w + h)
figure labels wider (opening_call s r) = ends _ (opening_is s _) nothing opened
figure labels wider (clear_call s squares clear n clear') = ends _ (clear_is s _ _ _) (same_list _ _) clear_after
figure labels wider (changeover_call i u a b r) = ends _ (same _ _) nothing changed
figure labels wider (bench_call bytes r output) =
    so (both (ends _ (same _ _) nothing read) (same_list output _))
    (λ t. (
      t.0,
      record {
        number = number_of r;
        sites = bench_sites r;
        farthest = bench_farthest r;
        cell_number = bench_cell r;
        call = t.0;
        output_is = t.1;
      },
    ))
figure labels wider (millimetres_call d pitch r) = ends _ (millimetres_is _ _) nothing (told figured)
figure labels wider (text_call d pitch before r after) = ends _ (text_is _ _ _) (same_list _ _) (told spelled)

-- all figures of a list
abbrev all : (labels wider : List ℕ) (fs : List Figure) → Test (AllHold fs)
all labels wider [] = nothing
all labels wider (f ∷ fs) = both (figure labels wider f) (all labels wider fs)

-- every figure holds: all tests pass, once the tests of the rows, the words of values, differences and the chamfer form
-- compute
pub figures_hold : AllHold figures
unfolding bad_sides bad_kind bad_weights bad_buffers bad_path bad_slices bad_byte bad_cost no_bore all_marked bad_ends
    bad_changeover bad_length bad_line bad_word short_text to_bits size away chamfer
figures_hold = (all (5 ∷ 0 ∷ 1 ∷ 2 ∷ 4 ∷ 3 ∷ 2 ∷ 3 ∷ []) (0 ∷ 0 ∷ 0 ∷ 0 ∷ 0 ∷ 0 ∷ 0 ∷ 0 ∷ []) figures).sound tt
