-- Lanes, over any word that a cell has.
--
-- Two cells are neighbours if their numbers differ by 1 and no row begins at the greater, or differ by the board's
-- width (`neighbours_beside`): no division is needed to look for neighbours.
--
-- Any two cells of the board have a lane between them: walk along the row to the right column, then along the column
-- (`lane_exists`).
--
-- A lane is at least as wide as v where each of its cells has a word of at least v (`wide_iff`). Of two best lanes
-- each is as wide as the other, so each has as few cells, so neither comes before the other; and of two different
-- lists of one length one comes before the other. So there is at most one best lane (`best_unique`), and which it is
-- depends on the words of the board's cells alone (`best_words`).
--
-- Assumes nothing.
use mathlib.Core.Path.{◌≡◌, refl, sym, ap, ap₂, subst₂}
use mathlib.Core.Logic.{◌≢◌, ◌↔◌, inl, inr, ⊎_elim, by_cases}
use mathlib.Core.List.Memᴰ
use mathlib.Core.List.{List, [], ◌∷◌, Memᴰ}
use Prim.Native.Nat.{ℕ, zero, suc, ◌+◌, ◌-◌, ◌*◌, ◌≤◌, ◌<◌, min}
use native.Mathlib.Nat.{le_refl, le_antisymm, le-min, mul_comm}
use native.Mathlib.Nat.{mod-lt, div-add-mod', add-mod_right, add-div_right, div-lt_iff_lt-mul}
use native.Mathlib.Decide.{dec_lt, ℕ_discrete}
use native.Mathlib.Omega.{arith}
use lib.ListN.{length}
use lib.Arith.{digits_lt, digits_div, digits_mod}
use Rattle.rules.specs.Board.{cell, column, row, away}
use Rattle.rules.specs.Lane.{Neighbours, GoesOn, Lane, width, Best}
use Rattle.rules.proofs.Order.{earlier_total}
use Rattle.rules.proofs.Board.{away_self}

-- neighbours are so both ways
pub neighbours_sym : (w p q : ℕ) → Neighbours w p q → Neighbours w q p
unfolding away
neighbours_sym w p q e = omega arith

-- cells given by column and row are neighbours where these are one step apart
neighbours_cells : (w x y x' y' : ℕ) → x < w → x' < w → away x x' + away y y' ≡ 1
    → Neighbours w (cell w x y) (cell w x' y')
neighbours_cells w x y x' y' a b e = rw (digits_mod y a, digits_mod y' b, digits_div y a, digits_div y' b) e

-- q lies beside p, by their numbers: to the right or the left in one row, or one row down or up
pub data Beside (w p q : ℕ) : Type 0 where
  right : q ≡ p + 1 → column w q ≢ 0 → Beside w p q
  left : p ≡ q + 1 → column w p ≢ 0 → Beside w p q
  down : q ≡ p + w → Beside w p q
  up : p ≡ q + w → Beside w p q

-- a neighbour lies beside
beside_of : (w p q : ℕ) → Neighbours w p q → Beside w p q
unfolding away
beside_of w p q e = by_cases (ℕ_discrete (row w p) (row w q)) along across
  where
    p_is : row w p * w + column w p ≡ p
    p_is = div-add-mod' p w

    q_is : row w q * w + column w q ≡ q
    q_is = div-add-mod' q w

    times : (a b : ℕ) → a ≡ b → a * w ≡ b * w
    times a b same = ap (λ (y : ℕ). y * w) same

    along : row w p ≡ row w q → Beside w p q
    along r =
        by_cases (dec_lt (column w p) (column w q))
        (λ l. right (omega (arith, p_is, q_is, times (row w p) (row w q) r)) (omega arith))
        (λ l. left (omega (arith, p_is, q_is, times (row w p) (row w q) r)) (omega arith))

    across : row w p ≢ row w q → Beside w p q
    across r =
        by_cases (dec_lt (row w p) (row w q))
        (λ l. down (omega (arith, p_is, q_is, times (row w q) (row w p + 1) (omega arith))))
        (λ l. up (omega (arith, p_is, q_is, times (row w p) (row w q + 1) (omega arith))))

-- the cell to the right is a neighbour
near_right : (w p q : ℕ) → 0 < w → q ≡ p + 1 → column w q ≢ 0 → Neighbours w p q
unfolding away
near_right w p q h e n =
    let x = column w q in
    let y = row w q in
    let x_in : x < w = mod-lt q h in
    let q_is : cell w x y ≡ q = div-add-mod' q w in
    let p_is : cell w (x - 1) y ≡ p = omega arith in
    subst₂ (Neighbours w) p_is q_is (neighbours_cells w (x - 1) y x y (omega arith) x_in (omega arith))

-- the cell below is a neighbour
near_down : (w p : ℕ) → 0 < w → Neighbours w p (p + w)
unfolding away
near_down w p h = rw (add-mod_right, add-div_right p h) (omega arith)

-- the neighbours of a cell are those that lie beside it
pub neighbours_beside : (w p q : ℕ) → 0 < w → Neighbours w p q ↔ Beside w p q
neighbours_beside w p q h = (beside_of w p q, near)
  where
    near : Beside w p q → Neighbours w p q
    near (right e n) = near_right w p q h e n
    near (left e n) = neighbours_sym w q p (near_right w q p h e n)
    near (down e) = rw e (near_down w p h)
    near (up e) = neighbours_sym w q p (rw e (near_down w q h))

-- from one number a step leads nearer to another, and stays below what both are below
toward : (n a b : ℕ) → a < n → b < n → a ≢ b
    → (c : ℕ) × (c < n) × (away a c ≡ 1) × (away a b ≡ away c b + 1)
unfolding away
toward n a b l m e =
    by_cases (dec_lt a b) (λ k. (a + 1, omega arith, omega arith, omega arith))
    (λ k. (a - 1, omega arith, omega arith, omega arith))

module _ (w h i j : ℕ) (i_in : i < w) (j_in : j < h) where
  -- a walk over the board from the cell in column x and row y to the one in column i and row j
  abbrev Walk : ℕ → ℕ → Type 0
  Walk x y = (cells : List ℕ) × GoesOn w h (cell w x y) cells (cell w i j)

  -- the cell in column x' and row y' is on the board, next to the one in column x and row y, and n steps from the end
  abbrev Nearer : ℕ → ℕ → ℕ → ℕ → ℕ → Type 0
  Nearer n x y x' y' = (x' < w) × (y' < h) × (away x x' + away y y' ≡ 1) × (away x' i + away y' j ≡ n)

  -- a walk can begin one step earlier
  hop : (n x y x' y' : ℕ) → x < w → Nearer n x y x' y' → Walk x' y' → Walk x y
  unfolding GoesOn
  hop n x y x' y' a near (cells, on) = (
    cell w x' y' ∷ cells,
    (rw (mul_comm w h) (digits_lt near.1 near.0), neighbours_cells w x y x' y' a near.0 near.2, on),
  )

  -- from each cell of the board a walk leads to the end: along the row first, then along the column
  walk : (n x y : ℕ) → x < w → y < h → away x i + away y j ≡ n → Walk x y
  unfolding GoesOn away
  walk zero x y a b e =
      let ex : x ≡ i = omega arith in
      let ey : y ≡ j = omega arith in
      ([], cc)
  walk (suc n) x y a b e =
      let go : (x' y' : ℕ) → Nearer n x y x' y' → Walk x y =
      λ x' y' near. hop n x y x' y' a near (walk n x' y' near.0 near.1 near.3) in
      by_cases (ℕ_discrete x i)
      (λ s. let t = toward h y j b j_in (omega arith) in go x t.0 (omega (arith, away_self x)))
      (λ s. let t = toward w x i a i_in s in go t.0 y (omega (arith, away_self y)))

-- a cell of the board lies in one of its columns and one of its rows
on_board : (w h c : ℕ) → c < w * h → (column w c < w) × (row w c < h)
on_board zero h c l = absurd (omega arith)
on_board (suc w) h c l =
    let pos : 0 < suc w = omega arith in
    (mod-lt c pos, (div-lt_iff_lt-mul pos).1 (omega arith))

-- from each cell of the board a lane leads to each other
pub lane_exists : (w h from to : ℕ) → from < w * h → to < w * h → (cells : List ℕ) × Lane w h from to cells
unfolding Lane
lane_exists w h from to f t =
    let (a, b) = on_board w h from f in
    let (c, d) = on_board w h to t in
    let on = walk w h (column w to) (row w to) c d _ (column w from) (row w from) a b refl in
    (from ∷ on.0, (refl, f, rw (div-add-mod' from w, div-add-mod' to w) at on.1))

-- a lane's first cell is `from`, on the board, and the walk goes on from there
pub lane_first : (w h from to : ℕ) (cells : List ℕ) → Lane w h from to cells
    → (rest : List ℕ) × (cells ≡ from ∷ rest) × (from < w * h) × GoesOn w h from rest to
unfolding Lane
lane_first w h from to [] l = absurd l
lane_first w h from to (p ∷ ps) (e, l, on) = (ps, rw e, rw e at l, rw e at on)

-- something holds of every cell of a list
abbrev pub All : (ℕ → Type 0) → List ℕ → Type 0
All P [] = Unit {0}
All P (c ∷ cs) = P c × All P cs

-- what holds of every cell of a list holds of each one in it
pub all_member : (P : ℕ → Type 0) (cells : List ℕ) → All P cells → (c : ℕ) → Memᴰ c cells → P c
all_member P [] all c m = absurd (Memᴰ.not-nil m)
all_member P (d ∷ ds) all c m =
    ⊎_elim (λ (e : c ≡ d). rw e all.0) (all_member P ds all.1 c) (Memᴰ.cases_cons m)

-- what follows for each cell follows for all of them
pub all_map : {P Q : ℕ → Type 0} → ((c : ℕ) → P c → Q c) → (cells : List ℕ) → All P cells → All Q cells
all_map f [] all = tt
all_map f (c ∷ cs) all = (f c all.0, all_map f cs all.1)

-- the cells of a walk are on the board
walk_inside : (w h p to : ℕ) (cells : List ℕ) → GoesOn w h p cells to → All (λ c. c < w * h) cells
unfolding GoesOn
walk_inside w h p to [] on = tt
walk_inside w h p to (q ∷ qs) on = (on.0, walk_inside w h q to qs on.2)

-- the cells of a lane are on the board
pub lane_inside : (w h from to : ℕ) (cells : List ℕ) → Lane w h from to cells → All (λ c. c < w * h) cells
unfolding Lane
lane_inside w h from to [] l = tt
lane_inside w h from to (p ∷ ps) l = (l.1, walk_inside w h p to ps l.2)

-- a list of cells is at least as wide as v where each of its cells has a word of at least v
pub wide_iff : (word : ℕ → ℕ) (v p : ℕ) (ps : List ℕ)
    → (v ≤ width word (p ∷ ps)) ↔ All (λ c. v ≤ word c) (p ∷ ps)
unfolding width
wide_iff word v p [] = (λ l. (l, tt), λ all. all.0)
wide_iff word v p (q ∷ qs) =
    let rest = wide_iff word v q qs in
    (λ l. (omega arith, rest.0 (omega arith)), λ all. le-min all.0 (rest.1 all.1))

-- no cell of a list has a lesser word than the list's width
pub width_le : (word : ℕ → ℕ) (cells : List ℕ) → All (λ c. width word cells ≤ word c) cells
width_le word [] = tt
width_le word (p ∷ ps) = (wide_iff word (width word (p ∷ ps)) p ps).0 (le_refl _)

-- where two words agree on a list of cells, its width is the same by both
pub width_same : (word word' : ℕ → ℕ) (cells : List ℕ) → All (λ c. word c ≡ word' c) cells
    → width word cells ≡ width word' cells
unfolding width
width_same word word' [] all = refl
width_same word word' (p ∷ []) all = all.0
width_same word word' (p ∷ q ∷ ps) all = ap₂ min all.0 (width_same word word' (q ∷ ps) all.1)

-- which lane is best depends on the words of the board's cells alone
pub best_words : {w h : ℕ} {word word' : ℕ → ℕ} {from to : ℕ} {cells : List ℕ}
    → ((c : ℕ) → c < w * h → word c ≡ word' c) → Best w h word from to cells → Best w h word' from to cells
best_words {w} {h} {word} {word'} {from} {to} {cells} agree b =
    let same : (o : List ℕ) → Lane w h from to o → width word o ≡ width word' o =
    λ o l. width_same word word' o (all_map agree o (lane_inside w h from to o l)) in
    let mine = same cells b.lane in
    record {
      lane = b.lane;
      widest = λ o l. omega (arith, same o l, b.widest o l);
      fewest = λ o l e. b.fewest o l (omega (arith, same o l));
      first = λ o l e n. b.first o l (omega (arith, same o l)) n;
    }

-- there is at most one best lane
pub best_unique : {w h : ℕ} {word : ℕ → ℕ} {from to : ℕ} {cells cells' : List ℕ}
    → Best w h word from to cells → Best w h word from to cells' → cells ≡ cells'
best_unique {w} {h} {word} {from} {to} {cells} {cells'} b b' =
    let l = b.lane in
    let l' = b'.lane in
    let wide : width word cells ≡ width word cells' = omega (arith, b.widest cells' l', b'.widest cells l) in
    let few : length cells ≡ length cells' = omega (arith, b.fewest cells' l' (sym wide), b'.fewest cells l wide) in
    elim (earlier_total cells cells' few) [
      | inl t ↦ t
      | inr (inl t) ↦ absurd (b'.first cells l wide (omega arith) t)
      | inr (inr t) ↦ absurd (b.first cells' l' (sym wide) (omega arith) t)
    ]

-- there is at most one best lane, and one width of it, by words that agree on the board
pub best_unique_words : {w h : ℕ} {word word' : ℕ → ℕ} {from to : ℕ} {cells cells' : List ℕ}
    → ((c : ℕ) → c < w * h → word c ≡ word' c) → Best w h word from to cells → Best w h word' from to cells'
    → (cells ≡ cells') × (width word cells ≡ width word' cells')
best_unique_words {w} {h} {word} {word'} {from} {to} {cells} agree b b' =
    let same = best_unique (best_words agree b) b' in
    (same, rw (← same) (width_same word word' cells (all_map agree cells (lane_inside w h from to cells b.lane))))

-- "From a cell to itself: that one cell."
pub own_lane : {w h : ℕ} {word : ℕ → ℕ} {c : ℕ} (cells : List ℕ) → Best w h word c c cells → cells ≡ c ∷ []
unfolding Lane GoesOn width
own_lane [] b = absurd b.lane
own_lane (p ∷ []) b = ap (λ (q : ℕ). q ∷ []) b.lane.0
own_lane {word = word} (p ∷ q ∷ ps) b =
    let alone : (p ≡ _) × (p < _) × (p ≡ _) = (b.lane.0, b.lane.1, b.lane.0) in
    let few = b.fewest (p ∷ []) alone (le_antisymm (b.widest (p ∷ []) alone) (width_le word (p ∷ q ∷ ps)).0) in
    absurd (omega arith)
