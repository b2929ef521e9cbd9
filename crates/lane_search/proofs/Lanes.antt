-- What labels say of lanes. From a labelled cell the next lesser labels lead to the far end, over cells that are wide
-- enough: a lane. From a cell with no label no lane is as wide. So a flood answers whether some lane is as wide as v, and
-- halving between 0, as wide as any lane is, and the lesser of the two ends' words, which no lane exceeds, finds the
-- width. The walk down the labels of a flood at that width is the best lane. Assumes nothing.
use mathlib.Core.Path.{◌≡◌, refl, ◌∙◌, sym, ap, subst}
use mathlib.Core.Logic.{by_cases}
use mathlib.Core.Bool.{Bool}
use mathlib.Core.List.{List, [], ◌∷◌}
use Prim.Native.Nat.{ℕ, zero, suc, ◌+◌, ◌-◌, ◌*◌, ◌≤◌, ◌<◌, min}
use native.Mathlib.Decide.{dec_le}
use native.Mathlib.Numerals.{add-one}
use native.Mathlib.Omega.{arith}
use borrow.Author.Tests.{ltb-true, ltb-false}
use borrow.Rule.Slice.PartMut.{mid_of, put_mid, mid_len, take_put}
use lib.Dec.{ltb}
use lib.ListN.{length, take, drop}
use lib.Seq.{drop-cons}
use Rattle.rules.specs.Lane.{GoesOn, Lane, Best, width}
use Rattle.rules.proofs.Lane.{All, wide_iff, width_le, lane_exists, lane_first}
use Rattle.rules.proofs.LaneLabels.{Flooded, Descends, none_as_wide, reached, best_by_widest}
use Rattle.rules.specs.Limits.{mark}
use Rattle.rules.proofs.Parts.{put_inside}
use Rattle.lane_flood.specs.Around.{Lists}
use Rattle.lane_flood.specs.Labelling.{at, Labels}
use Rattle.lane_search.specs.Course.{Wide, Between, AsWide, Walked, Laid}

module _ {w : ℕ} (h : ℕ) {word : ℕ → ℕ} {v to : ℕ} {label : ℕ → ℕ} (L : Labels w (w * h) word v to label) where
  -- the labels are those of a flood as the rules' laws have it
  pub flooded : Flooded w h word v to label
  flooded = record { start = L.start; spread = L.spread }

  -- from a labelled cell a walk as wide as v leads to the far end
  going : (k p : ℕ) → p < w * h → label p ≡ suc k
      → (qs : List ℕ) × GoesOn w h p qs to × All (λ c. v ≤ word c) (p ∷ qs)
  unfolding GoesOn
  going zero p inside e = ([], L.last p inside e, (L.wide p inside (omega arith), tt))
  going (suc k) p inside e =
      let (q, q_in, near, is) = L.descending.lesser p inside (omega arith) in
      let (qs, on, all) = going k q q_in (omega arith) in
      (q ∷ qs, (q_in, near, on), (L.wide p inside (omega arith), all))

  -- from a labelled cell some lane is as wide as v
  pub wide_lane : (from : ℕ) → from < w * h → 0 < label from → Wide w h word from to v
  unfolding Lane
  wide_lane from inside more =
      let (qs, on, all) = going (label from - 1) from inside (omega arith) in
      record { cells = from ∷ qs; lane = (refl, inside, on); as_wide = (wide_iff word v from qs).1 all }

  -- from a cell with no label none is
  pub no_lane : (from : ℕ) → label from ≡ 0 → (cells : List ℕ) → Lane w h from to cells → width word cells < v
  no_lane from none cells lane =
      by_cases (dec_le v (width word cells)) (λ m. absurd (none_as_wide flooded from none cells lane m)) (λ m. omega arith)

  -- the path words walk down the labels
  descends : {from cells : ℕ} (path : List ℕ) → length path ≡ w * h → cells ≤ w * h
      → Walked w (w * h) label from cells (at path) → (m i : ℕ) → i + m + 1 ≡ cells → at path i < w * h
      → label (at path i) ≡ m + 1
      → Descends w h word v to label (at path i) (take m (drop (i + 1) path))
  unfolding Descends
  descends path long few W zero i e inside is = (L.last (at path i) inside (omega arith), omega arith)
  descends path long few W (suc m) i e inside is =
      let D = W.steps i (omega arith) in
      let in_path : i + 1 < length path = omega arith in
      rw (drop-cons path (i + 1) 0) (
        record {
          inside = D.inside;
          near = D.near;
          wide = L.wide (at path (i + 1)) D.inside (omega (arith, D.lesser));
          labelled = omega (arith, D.lesser);
          lesser = sym D.lesser;
          least = λ r r_in near broad same. D.least r r_in near same;
        },
        subst (λ k. Descends w h word v to label (at path (i + 1)) (take m (drop k path))) (add-one (i + 1))
            (descends path long few W m (i + 1) (omega arith) D.inside (omega (arith, D.lesser))),
      )

-- a flood answers whether some lane is as wide as v
pub flood_answers : {w n : ℕ} {word : ℕ → ℕ} {v to from : ℕ} {label : ℕ → ℕ} {answer : Bool} → Labels w n word v to label
    → from < n → answer ≡ ltb 0 (label from) → AsWide w n word from to v answer
flood_answers {w} {n} {word} {v} {to} {from} {label} L inside is =
    record {
      yes = λ e h whole. wide_lane h (board h whole) from (rw whole at inside) (ltb-true _ _ (sym is ∙ e));
      no = λ e h whole. no_lane h (board h whole) from (omega (arith, ltb-false 0 (label from) (sym is ∙ e)));
    }
  where
    board : (h : ℕ) → n ≡ w * h → Labels w (w * h) word v to label
    board h whole = subst (λ m. Labels w m word v to label) whole L

-- what holds of every cell of a walk holds of its last
last_too : (P : ℕ → Type 0) (w h p to : ℕ) (qs : List ℕ) → GoesOn w h p qs to → All P (p ∷ qs) → P to
unfolding GoesOn
last_too P w h p to [] on all = rw on at all.0
last_too P w h p to (q ∷ qs) on all = last_too P w h q to qs on.2 all.1

-- no lane is wider than its ends
ends_wide : (w h from to : ℕ) (word : ℕ → ℕ) (cells : List ℕ) → Lane w h from to cells
    → (width word cells ≤ word from) × (width word cells ≤ word to)
ends_wide w h from to word cells lane =
    let (rest, is, inside, on) = lane_first w h from to cells lane in
    let all = rw is at (width_le word cells) in
    rw is (all.0, last_too (λ c. width word (from ∷ rest) ≤ word c) w h from to rest on all)

-- the first words of a list are its first and those after it
first_taken : (m : ℕ) (path : List ℕ) → 0 < length path → take (suc m) path ≡ at path 0 ∷ take m (drop 1 path)
first_taken m [] h = absurd (omega arith)
first_taken m (p ∷ ps) h = refl

module _ {w n : ℕ} {word : ℕ → ℕ} {from to : ℕ} where
  -- before the first flood: from any cell a lane leads to any other, and none is wider than its ends
  pub halving_begins : from < n → to < n → Between w n word from to 0 (min (word from) (word to))
  halving_begins from_in to_in =
      record {
        some =
            λ h whole.
            let (cells, lane) = lane_exists w h from to (rw whole at from_in) (rw whole at to_in) in
            record { cells = cells; lane = lane; as_wide = omega arith };
        none = λ h whole cells lane. omega (arith, ends_wide w h from to word cells lane);
      }

  -- a flood at the width reaches the near end
  pub width_reached : {v : ℕ} {label : ℕ → ℕ} (h : ℕ) → n ≡ w * h → Between w n word from to v v
      → Labels w n word v to label → 0 < label from
  width_reached {v} {label} h whole B L =
      let W = B.some h whole in
      (reached (flooded h (subst (λ m. Labels w m word v to label) whole L)) from W.cells W.lane W.as_wide).0

  -- the walk down the labels of a flood at the width is the best lane
  pub walk_best : {v cells : ℕ} {label : ℕ → ℕ} (path : List ℕ) (h : ℕ) → n ≡ w * h → length path ≡ n → from < n
      → Between w n word from to v v → Labels w n word v to label → Walked w n label from cells (at path)
      → Best w h word from to (take cells path) × (width word (take cells path) ≡ v)
  walk_best {v} {cells} {label} path h whole long inside B L W =
      let more = width_reached h whole B L in
      let m = label from - 1 in
      let L' : Labels w (w * h) word v to label = subst (λ k. Labels w k word v to label) whole L in
      let W' : Walked w (w * h) label from cells (at path) =
      subst (λ k. Walked w k label from cells (at path)) whole W in
      let few : cells ≤ w * h = omega (arith, L.descending.few from inside, W.cells_is) in
      let one_more : cells ≡ suc m = omega (arith, W.cells_is) in
      let in_path : 0 < length path = omega arith in
      let d =
      descends h L' path (long ∙ whole) few W' m 0 (omega arith) (omega (arith, W.first))
      (omega (arith, ap label W.first)) in
      rw (one_more, first_taken m path, W.first)
      (best_by_widest (flooded h L') from (take m (drop 1 path)) (rw whole at inside) (L.wide from inside more)
      (B.none h whole) (rw W.first at d))

module _ {w : ℕ} {words labels path : List ℕ} {from to v cells : ℕ} (T : Lists w words labels path)
    (inside : from < length words) (B : Between w (length words) (at words) from to v v)
    (L : Labels w (length words) (at words) v to (at labels)) (W : Walked w (length labels) (at labels) from cells (at path))
  where
    -- no more cells than the board has
    walk_few : cells ≤ length words
    walk_few = omega (arith, W.cells_is, L.descending.few from inside)

    -- the labels cleared and the rest of the path marked: the best lane is laid
    pub laid : {labels' : List ℕ} (rest : List ℕ) → ((k : ℕ) → k < length labels → at labels' k ≡ 0)
        → length rest ≡ length (mid_of cells (length path - cells) path)
        → ((k : ℕ) → k < length (mid_of cells (length path - cells) path) → at rest k ≡ mark)
        → Laid w (length words) (at words) from to v cells labels' (put_mid cells (length path - cells) path rest)
    laid {labels'} rest clear rest-long marks =
        record {
          best = λ h whole. rw before (lane h whole).0;
          width_is = λ h whole. rw before (sym (lane h whole).1);
          cells_in = walk_few;
          marked = marked;
          cleared = λ k h. clear k (omega (arith, T.labels_long));
        }
      where
        before : take cells (put_mid cells (length path - cells) path rest) ≡ take cells path
        before = take_put cells (length path - cells) path rest (omega (arith, walk_few, T.queue_long))

        lane : (h : ℕ) → length words ≡ w * h
            → Best w h (at words) from to (take cells path) × (width (at words) (take cells path) ≡ v)
        lane h whole =
            walk_best path h whole T.queue_long inside B L
            (subst (λ k. Walked w k (at labels) from cells (at path)) T.labels_long W)

        marked : (k : ℕ) → cells ≤ k → k < length words → at (put_mid cells (length path - cells) path rest) k ≡ mark
        marked k l h =
            let size = mid_len cells (length path) path (omega arith) in
            let is : cells + (k - cells) ≡ k = omega arith in
            ap (at (put_mid cells (length path - cells) path rest)) (sym is)
            ∙ put_inside {a = cells} (length path - cells) path rest {i = k - cells}
            (omega (arith, walk_few, T.queue_long)) (omega (arith, size, T.queue_long))
            ∙ marks (k - cells) (omega (arith, size, T.queue_long))
