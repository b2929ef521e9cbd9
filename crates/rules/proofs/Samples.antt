-- Every starred sample holds of the rules, and every board that tells 01 from a misreading. Of each sample there is a test
-- that computes, and where the test passes the sample holds; the tests of all samples of either list pass.
--
-- The tests look at every cell of the board. A number d is the least word of the features if some feature has the word
-- d and none a lesser one. A cell is the one that the tie rule takes if it is a feature and no feature's keys come
-- before its own. Both are tested and proved once, over any test of features, and pictures put in bored cells, costs
-- unmarked ones. A changeover is compared with the floor, which is known to be the changeover. What convinces of a lane
-- is given here: the words of its board, which are tested to be the least words, and the labels of two floods, which
-- tell whether its cells are the best lane. Assumes nothing.
use mathlib.Core.Path.{◌≡◌, sym}
use mathlib.Core.Logic.{◌↔◌, ⊎_elim}
use mathlib.Core.Bool.{Bool, true, not, ◌&&◌}
use mathlib.Core.List.{List, [], ◌∷◌}
use Prim.Native.Nat.{ℕ, ◌<◌}
use lib.Dec.{T, ltb, eqb}
use lib.IntN.{ℤ}
use lib.ListN.{get_or}
use lib.Signed.{le_z, le_z_yes}
use lib.Ieee.Fits.{and_l, and_r}
use mir.Facts.{T_not, and_yes, and_no, ltb_yes, ltb_no, eqb_yes, eqb_no, yes_eqb, no_eqb}
use Rattle.rules.specs.Limits.{mark}
use Rattle.rules.specs.Board.{cell, column, row, away, Bored, cost_at, Unmarked}
use Rattle.rules.specs.Measures.{chamfer}
use Rattle.rules.specs.Tie.{Least, First, site_keys, bore_word, cost_word}
use Rattle.rules.specs.Tie.{MapWord, MapSite, CostMapWord, CostMapSite}
use Rattle.rules.specs.Changeover.{Changeover, numerator, divisor, floor}
use Rattle.rules.specs.Knob.{clear_byte}
use Rattle.rules.specs.Refusals.{some}
use Rattle.rules.specs.Lane.{WidestLane}
use Rattle.rules.specs.Samples.{Sample, picture_cell, weighted_cell, cost_distances, cost_sites, change, clear, lane}
use Rattle.rules.specs.Samples.{SampleHolds, starred, telling, Shown}
use Rattle.rules.proofs.Board.{cell_of}
use Rattle.rules.proofs.Order.{comes_before, comes_before_means, every, every_means}
use Rattle.rules.proofs.TieRule.{first_is_site, cost_as_site}
use Rattle.rules.proofs.Changeover.{changeover_floor, ≤ℤ-antisymm}
use Rattle.rules.proofs.Knob.{some_means}
use Rattle.rules.proofs.LaneTest.{lane_test, lane_test_sound}

-- where a test made of parts passes, each part does
pub ruleset parts = (and_l, and_r)

-- every cell of the board passes
abbrev everywhere : ℕ → ℕ → (ℕ → ℕ → Bool) → Bool
everywhere w h p = every w (λ i. every h (p i))

-- then each of them does
everywhere_means : (w h : ℕ) (p : ℕ → ℕ → Bool) → T (everywhere w h p) → (i j : ℕ) → i < w → j < h → T (p i j)
everywhere_means w h p t i j l m = every_means h (p i) (every_means w (λ i. every h (p i)) t i l) j m

-- f tests whether a cell is a feature
abbrev Tests : (ℕ → ℕ → Type 0) → (ℕ → ℕ → Bool) → Type 0
Tests Feature f = (i j : ℕ) → T (f i j) ↔ Feature i j

-- some feature of the board passes p
abbrev one : ℕ → ℕ → (ℕ → ℕ → Bool) → (ℕ → ℕ → Bool) → Bool
one w h f p = some w (λ i. some h (λ j. f i j && p i j))

-- no feature of the board passes p
abbrev none : ℕ → ℕ → (ℕ → ℕ → Bool) → (ℕ → ℕ → Bool) → Bool
none w h f p = everywhere w h (λ i j. not (f i j && p i j))

-- d is the word of a feature, and no feature has a lesser one
abbrev pub least : ℕ → ℕ → (ℕ → ℕ → Bool) → (ℕ → ℕ → ℕ) → ℕ → Bool
least w h f word d = one w h f (λ i j. eqb (word i j) d) && none w h f (λ i j. ltb (word i j) d)

-- the cell in column i and row j is a feature of the board, and no feature's keys come before its own
abbrev first : ℕ → ℕ → (ℕ → ℕ → Bool) → (ℕ → ℕ → List ℕ) → ℕ → ℕ → Bool
first w h f keys i j = ltb i w && ltb j h && f i j && none w h f (λ i' j'. comes_before (keys i' j') (keys i j))

module _ (w h : ℕ) {Feature : ℕ → ℕ → Type 0} (f : ℕ → ℕ → Bool) (tests : Tests Feature f) where
  -- where some feature passes, here is one that does
  one_means : (p : ℕ → ℕ → Bool) → T (one w h f p)
      → (i : ℕ) × (j : ℕ) × (i < w) × (j < h) × Feature i j × T (p i j)
  one_means p t =
      let (i, l, u) = some_means w (λ i. some h (λ j. f i j && p i j)) t in
      let (j, m, v) = some_means h (λ j. f i j && p i j) u in
      let (feature, passed) = and_yes (f i j) (p i j) v in
      (i, j, l, m, (tests i j).0 feature, passed)

  -- where no feature passes, each of them fails
  none_means : (p : ℕ → ℕ → Bool) → T (none w h f p)
      → (i j : ℕ) → i < w → j < h → Feature i j → T (not (p i j))
  none_means p t i j l m feature =
      ⊎_elim (λ n. absurd (T_not (f i j) ((tests i j).1 feature) n)) (λ n. n)
      (and_no (f i j) (p i j) (everywhere_means w h (λ i j. not (f i j && p i j)) t i j l m))

  -- where its test passes, d is the least word
  pub least_means : (word : ℕ → ℕ → ℕ) (d : ℕ) → T (least w h f word d) → Least w h Feature word d
  least_means word d t =
      let (i, j, l, m, feature, same) = one_means (λ i j. eqb (word i j) d) (search parts) in
      record {
        i = i;
        j = j;
        column_in = l;
        row_in = m;
        feature = feature;
        attained = eqb_yes same;
        least = λ i' j' l m k. ltb_no (none_means (λ i j. ltb (word i j) d) (search parts) i' j' l m k);
      }

  -- where its test passes, the cell is the first feature
  first_means : (keys : ℕ → ℕ → List ℕ) (i j : ℕ) → T (first w h f keys i j) → First w h Feature keys i j
  first_means keys i j t = record {
    column_in = ltb_yes (search parts);
    row_in = ltb_yes (search parts);
    feature = (tests i j).0 (search parts);
    none_before = λ i' j' l m k e.
        T_not (comes_before (keys i' j') (keys i j)) (comes_before_means (keys i' j') (keys i j) e)
        (none_means (λ i' j'. comes_before (keys i' j') (keys i j)) (search parts) i' j' l m k);
  }

-- the cell in column i and row j is bored
abbrev pub bored : ℕ → List ℕ → ℕ → ℕ → Bool
bored w picture i j = eqb (get_or picture (cell w i j) 0) 1

-- that is a test of bored cells
pub bored_tests : (w : ℕ) (picture : List ℕ) → Tests (Bored w picture) (bored w picture)
bored_tests w picture i j = (eqb_yes, yes_eqb)

module _ (w h kind d1 d2 : ℕ) (picture : List ℕ) (x y : ℕ) where
  -- d is the map word of the picture at (x, y)
  abbrev map_word : ℕ → Bool
  map_word d = least w h (bored w picture) (bore_word kind d1 d2 x y) d

  -- where that test passes, it is
  map_word_means : (d : ℕ) → T (map_word d) → MapWord kind d1 d2 w h picture x y d
  map_word_means d t = least_means w h (bored w picture) (bored_tests w picture) (bore_word kind d1 d2 x y) d t

  -- the cell of that number is the site of the picture at (x, y)
  abbrev pub map_site : ℕ → Bool
  map_site c = first w h (bored w picture) (site_keys (bore_word kind d1 d2 x y) (away y)) (column w c) (row w c)

  -- where that test passes, it is
  pub map_site_means : (c : ℕ) → T (map_site c) → MapSite kind d1 d2 w h picture x y c
  map_site_means c t = record {
    i = column w c;
    j = row w c;
    site_is = sym (cell_of w c);
    rule = first_is_site (first_means w h (bored w picture) (bored_tests w picture) _ (column w c) (row w c) t);
  }

-- the cell in column i and row j is unmarked
abbrev pub unmarked : ℕ → List ℕ → ℕ → ℕ → Bool
unmarked w costs i j = not (eqb (cost_at w costs i j) mark)

-- that is a test of unmarked cells
pub unmarked_tests : (w : ℕ) (costs : List ℕ) → Tests (Unmarked w costs) (unmarked w costs)
unmarked_tests w costs i j = (eqb_no, no_eqb)

module _ (w h kind : ℕ) (costs : List ℕ) (x y : ℕ) where
  -- d is the map word of the costs at (x, y)
  abbrev cost_map_word : ℕ → Bool
  cost_map_word d = least w h (unmarked w costs) (cost_word kind w costs x y) d

  -- where that test passes, it is
  cost_map_word_means : (d : ℕ) → T (cost_map_word d) → CostMapWord kind w h costs x y d
  cost_map_word_means d t =
      least_means w h (unmarked w costs) (unmarked_tests w costs) (cost_word kind w costs x y) d t

  -- the cell of that number is the site of the costs at (x, y)
  abbrev pub cost_map_site : ℕ → Bool
  cost_map_site c = first w h (unmarked w costs) (site_keys (cost_word kind w costs x y) (λ _. 0)) (column w c) (row w c)

  -- where that test passes, it is
  pub cost_map_site_means : (c : ℕ) → T (cost_map_site c) → CostMapSite kind w h costs x y c
  cost_map_site_means c t = record {
    i = column w c;
    j = row w c;
    site_is = sym (cell_of w c);
    rule =
        cost_as_site.1
        (first_is_site (first_means w h (unmarked w costs) (unmarked_tests w costs) _ (column w c) (row w c) t));
  }

-- i is to the left of u, and p is the floor
abbrev pub changes : ℕ → ℕ → ℕ → ℕ → ℤ → Bool
changes i u a b p =
    let q = floor (numerator i u a b) (divisor i u) in
    ltb i u && le_z p q && le_z q p

-- where the test passes, p is the changeover
pub changes_means : (i u a b : ℕ) (p : ℤ) → T (changes i u a b p) → Changeover i u a b p
changes_means i u a b p t =
    let e : floor (numerator i u a b) (divisor i u) ≡ p =
    ≤ℤ-antisymm (le_z_yes (search parts)) (le_z_yes (search parts)) in
    rw e at (changeover_floor i u a b (ltb_yes (search parts)))

-- What convinces of a lane: the kind 0 word of each cell, and its label in a flood from the far end over the cells at
-- least as wide as the lane, and in one over the wider cells.
pub record Floods : Type 0 where
  pub words : List ℕ
  pub labels : List ℕ
  pub wider : List ℕ

abbrev pub floods : List ℕ → List ℕ → List ℕ → Floods
floods words labels wider = record { words = words; labels = labels; wider = wider }

module _ (w h : ℕ) (picture : List ℕ) (from to broad : ℕ) (cells : List ℕ) (f : Floods) where
  -- the word given for (x, y) is the map word there
  abbrev right : ℕ → ℕ → Bool
  right x y = map_word w h 0 0 0 picture x y (get_or f.words (cell w x y) 0)

  -- the words are right, and by them the labels find the lane and its width
  abbrev pub goes : Bool
  goes = everywhere w h right && lane_test w h f.words from to broad cells f.labels f.wider

  -- where the test passes, the lane's sample holds
  pub goes_means : T goes → WidestLane w h picture from to broad cells
  goes_means t =
      let each = everywhere_means w h right (search parts) in
      let (best, is) = lane_test_sound w h f.words from to broad cells f.labels f.wider (search parts) in
      record {
        word = λ c. get_or f.words c 0;
        word_least = λ x y l m. map_word_means w h 0 0 0 picture x y (get_or f.words (cell w x y) 0) (each x y l m);
        best = best;
        width_is = sym is;
      }

-- the floods of the first lane of a list of samples, and those of the others
abbrev these : List Floods → Floods
these [] = floods [] [] []
these (f ∷ fs) = f

abbrev others : List Floods → List Floods
others [] = []
others (f ∷ fs) = fs

-- the test of a sample, given the floods of the lanes from it on
abbrev passes : Sample → List Floods → Bool
passes (picture_cell w h kind picture x y d site) fs =
    map_word w h kind 0 0 picture x y d && map_site w h kind 0 0 picture x y site
passes (weighted_cell w h d1 d2 picture x y d) fs = map_word w h 3 d1 d2 picture x y d
passes (cost_distances w h kind costs words) fs =
    everywhere w h (λ x y. cost_map_word w h kind costs x y (get_or words (cell w x y) 0))
passes (cost_sites w h kind costs sites) fs =
    everywhere w h (λ x y. cost_map_site w h kind costs x y (get_or sites (cell w x y) 0))
passes (change i u a b p) fs = changes i u a b p
passes (clear a b d byte) fs = eqb (clear_byte a b d) byte
passes (lane w h picture from to broad cells) fs = goes w h picture from to broad cells (these fs)

-- a sample that passes holds
sound : (s : Sample) (fs : List Floods) → T (passes s fs) → SampleHolds s
sound (picture_cell w h kind picture x y d site) fs t =
    (map_word_means w h kind 0 0 picture x y d (search parts), map_site_means w h kind 0 0 picture x y site (search parts))
sound (weighted_cell w h d1 d2 picture x y d) fs t = map_word_means w h 3 d1 d2 picture x y d t
sound (cost_distances w h kind costs words) fs t = λ x y l m.
    cost_map_word_means w h kind costs x y (get_or words (cell w x y) 0) (everywhere_means w h _ t x y l m)
sound (cost_sites w h kind costs sites) fs t = λ x y l m.
    cost_map_site_means w h kind costs x y (get_or sites (cell w x y) 0) (everywhere_means w h _ t x y l m)
sound (change i u a b p) fs t = changes_means i u a b p t
sound (clear a b d byte) fs t = eqb_yes t
sound (lane w h picture from to broad cells) fs t = goes_means w h picture from to broad cells (these fs) t

-- the floods of the lanes after a sample
abbrev after : Sample → List Floods → List Floods
after (picture_cell w h kind picture x y d site) fs = fs
after (weighted_cell w h d1 d2 picture x y d) fs = fs
after (cost_distances w h kind costs words) fs = fs
after (cost_sites w h kind costs sites) fs = fs
after (change i u a b p) fs = fs
after (clear a b d byte) fs = fs
after (lane w h picture from to broad cells) fs = others fs

-- all samples of a list pass, given the floods of its lanes
abbrev all_pass : List Sample → List Floods → Bool
all_pass [] fs = true
all_pass (s ∷ ss) fs = passes s fs && all_pass ss (after s fs)

-- where all samples of a list pass, every one holds
shown_by : (ss : List Sample) (fs : List Floods) → T (all_pass ss fs) → Shown ss
shown_by [] fs t = tt
shown_by (s ∷ ss) fs t = (sound s fs (search parts), shown_by ss (after s fs) (search parts))

-- the floods of the starred lanes
abbrev starred_floods : List Floods
starred_floods =
    floods (2 ∷ 1 ∷ 2 ∷ 1 ∷ 0 ∷ 1 ∷ 2 ∷ 1 ∷ 2 ∷ []) (5 ∷ 4 ∷ 3 ∷ 4 ∷ 0 ∷ 2 ∷ 3 ∷ 2 ∷ 1 ∷ [])
    (0 ∷ 0 ∷ 0 ∷ 0 ∷ 0 ∷ 0 ∷ 0 ∷ 0 ∷ 1 ∷ [])
    ∷ floods (2 ∷ 1 ∷ 2 ∷ 1 ∷ 0 ∷ 1 ∷ 2 ∷ 1 ∷ 2 ∷ []) (1 ∷ 0 ∷ 0 ∷ 0 ∷ 0 ∷ 0 ∷ 0 ∷ 0 ∷ 0 ∷ [])
    (0 ∷ 0 ∷ 0 ∷ 0 ∷ 0 ∷ 0 ∷ 0 ∷ 0 ∷ 0 ∷ [])
    ∷ floods (4 ∷ 1 ∷ 0 ∷ 1 ∷ 4 ∷ []) (5 ∷ 4 ∷ 3 ∷ 2 ∷ 1 ∷ []) (0 ∷ 0 ∷ 0 ∷ 2 ∷ 1 ∷ [])
    ∷ []

-- every starred sample holds: all tests pass, once differences of columns and rows compute
pub starred_shown : Shown starred
unfolding away
starred_shown = shown_by starred starred_floods tt

-- the floods of the lanes that tell
abbrev telling_floods : List Floods
telling_floods =
    floods (0 ∷ 1 ∷ 4 ∷ []) (0 ∷ 0 ∷ 1 ∷ []) (0 ∷ 0 ∷ 0 ∷ [])
    ∷ floods (0 ∷ 1 ∷ 4 ∷ []) (3 ∷ 2 ∷ 1 ∷ []) (0 ∷ 2 ∷ 1 ∷ [])
    ∷ floods (0 ∷ 1 ∷ 4 ∷ []) (1 ∷ 2 ∷ 3 ∷ []) (0 ∷ 0 ∷ 0 ∷ [])
    ∷ floods (1 ∷ 0 ∷ 1 ∷ 2 ∷ 1 ∷ 2 ∷ []) (5 ∷ 0 ∷ 1 ∷ 4 ∷ 3 ∷ 2 ∷ []) (0 ∷ 0 ∷ 0 ∷ 0 ∷ 0 ∷ 0 ∷ [])
    ∷ floods (0 ∷ 1 ∷ 4 ∷ 1 ∷ 1 ∷ 2 ∷ 1 ∷ 0 ∷ 1 ∷ 2 ∷ 1 ∷ 2 ∷ [])
    (0 ∷ 6 ∷ 5 ∷ 4 ∷ 5 ∷ 4 ∷ 3 ∷ 0 ∷ 3 ∷ 2 ∷ 1 ∷ 2 ∷ [])
    (0 ∷ 0 ∷ 0 ∷ 0 ∷ 0 ∷ 0 ∷ 0 ∷ 0 ∷ 0 ∷ 0 ∷ 0 ∷ 0 ∷ [])
    ∷ []

-- every board that tells holds, in the same way; the chamfer form computes too
pub telling_shown : Shown telling
unfolding away chamfer
telling_shown = shown_by telling telling_floods tt
