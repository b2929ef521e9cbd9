-- The order of a scan. The four steps of the forward scan lead to cells with lesser numbers, those of the backward scan
-- to cells with greater ones. So a scan comes to a cell only after the neighbours whose words the cell takes, and what
-- holds of a cell wherever it holds of those neighbours holds of every cell of the board. Assumes nothing.
use mathlib.Core.Path.{◌≡◌, ◌∙◌, ap}
use Prim.Native.Nat.{ℕ, zero, suc, ◌+◌, ◌-◌, ◌*◌, ◌≤◌, ◌<◌}
use native.Mathlib.Nat.{le_refl}
use native.Mathlib.Omega.{arith}
use lib.IntN.{pos, ◌+ℤ◌, -ℤ-+ℤ_cancel}
use Rattle.rules.specs.Board.{cell}
use Rattle.rules.specs.Table.{back, none, on}
use Rattle.rules.proofs.Board.{cell_in}
use Rattle.chamfer_turn.specs.Neighbours.{Weighed, On, Neighbour}

-- the two scans by their numbers; the steps of one are 4·scan .. 4·scan + 3
abbrev pub forward_scan : ℕ
forward_scan = 0

abbrev pub backward_scan : ℕ
backward_scan = 1

-- a scan comes to the cell with the number c before it comes to c'
abbrev pub Before : ℕ → ℕ → ℕ → Type 0
Before zero c c' = c < c'
Before (suc n) c c' = c' < c

-- a step back leads to the number before
went_back : (r at : ℕ) → pos r ≡ pos at +ℤ back → r + 1 ≡ at
went_back r at e =
    let f : pos (r + 1) ≡ pos at = ap (λ n. n +ℤ pos 1) e ∙ -ℤ-+ℤ_cancel (pos at) (pos 1) in
    cc

-- none to the number itself
went_none : (r at : ℕ) → pos r ≡ pos at +ℤ none → r ≡ at
went_none r at e =
    let f : r ≡ at + 0 = cc in
    omega arith

-- a step on to the next
went_on : (r at : ℕ) → pos r ≡ pos at +ℤ on → r ≡ at + 1
went_on r at e = cc

-- the row before begins w cells earlier
row_back : (w r at : ℕ) → pos r ≡ pos at +ℤ back → r * w + w ≡ at * w
row_back w r at e = omega (arith, ap (λ n. n * w) (went_back r at e))

-- the row itself where it does
row_none : (w r at : ℕ) → pos r ≡ pos at +ℤ none → r * w ≡ at * w
row_none w r at e = ap (λ n. n * w) (went_none r at e)

-- the next row w cells later
row_on : (w r at : ℕ) → pos r ≡ pos at +ℤ on → r * w ≡ at * w + w
row_on w r at e = omega (arith, ap (λ n. n * w) (went_on r at e))

module _ {b : Weighed} {x y x' y' : ℕ} (here : On b x y) where
  -- a forward step leads up, or to the left
  forward_earlier : (k : ℕ) → k < 4 → Neighbour b k x y x' y' → cell b.board.w x' y' < cell b.board.w x y
  forward_earlier zero l n =
      omega (arith, row_back b.board.w y' y n.leads.down, went_back x' x n.leads.across)
  forward_earlier (suc zero) l n =
      omega (arith, row_back b.board.w y' y n.leads.down, went_none x' x n.leads.across)
  forward_earlier (suc (suc zero)) l n =
      omega (arith, row_back b.board.w y' y n.leads.down, went_on x' x n.leads.across)
  forward_earlier (suc (suc (suc zero))) l n =
      omega (arith, row_none b.board.w y' y n.leads.down, went_back x' x n.leads.across)
  forward_earlier (suc (suc (suc (suc k)))) l n = absurd (omega arith)

  -- a backward step leads down, or to the right
  backward_earlier : (k : ℕ) → k < 4 → Neighbour b (suc (suc (suc (suc k)))) x y x' y'
      → cell b.board.w x y < cell b.board.w x' y'
  backward_earlier zero l n =
      omega (arith, row_none b.board.w y' y n.leads.down, went_on x' x n.leads.across)
  backward_earlier (suc zero) l n =
      omega (arith, row_on b.board.w y' y n.leads.down, went_back x' x n.leads.across)
  backward_earlier (suc (suc zero)) l n =
      omega (arith, row_on b.board.w y' y n.leads.down, went_none x' x n.leads.across)
  backward_earlier (suc (suc (suc zero))) l n =
      omega (arith, row_on b.board.w y' y n.leads.down, went_on x' x n.leads.across)
  backward_earlier (suc (suc (suc (suc k)))) l n = absurd (omega arith)

  -- a scan comes to the neighbours by its own steps first
  pub earlier : (scan k : ℕ) → scan < 2 → 4 * scan ≤ k → k < 4 * scan + 4 → Neighbour b k x y x' y'
      → Before scan (cell b.board.w x' y') (cell b.board.w x y)
  earlier zero k s f t n = forward_earlier k t n
  earlier (suc zero) zero s f t n = absurd (omega arith)
  earlier (suc zero) (suc zero) s f t n = absurd (omega arith)
  earlier (suc zero) (suc (suc zero)) s f t n = absurd (omega arith)
  earlier (suc zero) (suc (suc (suc zero))) s f t n = absurd (omega arith)
  earlier (suc zero) (suc (suc (suc (suc k)))) s f t n = backward_earlier k (omega arith) n
  earlier (suc (suc m)) k s f t n = absurd (omega arith)

-- how far a scan of n cells has gone when it comes to the cell with the number c
abbrev place : ℕ → ℕ → ℕ → ℕ
place zero n c = c
place (suc m) n c = n - c

-- it comes to an earlier cell at an earlier place
sooner : (scan : ℕ) {n c c' : ℕ} → c < n → c' < n → Before scan c c' → place scan n c < place scan n c'
sooner zero l m e = e
sooner (suc k) l m e = omega arith

-- what holds of a cell wherever it holds of its neighbours by the scan's steps
module _ (b : Weighed) (scan : ℕ) (scan_in : scan < 2) (P : ℕ → ℕ → Type 0)
    (next : (x y : ℕ) → On b x y
    → ((k x' y' : ℕ) → 4 * scan ≤ k → k < 4 * scan + 4 → Neighbour b k x y x' y' → P x' y')
    → P x y) where
  -- holds of the cells at the places before m
  until : (m x y : ℕ) → On b x y → place scan (b.board.w * b.board.h) (cell b.board.w x y) < m → P x y
  until zero x y here l = absurd (omega arith)
  until (suc m) x y here l =
      next x y here
      (λ k x' y' f t n.
      let there = n.on_board in
      let first =
      sooner scan (cell_in there.column_in there.row_in) (cell_in here.column_in here.row_in)
      (earlier here scan k scan_in f t n) in
      until m x' y' there (omega arith))

  -- and so of every cell
  pub along : (x y : ℕ) → On b x y → P x y
  along x y here = until (suc (place scan (b.board.w * b.board.h) (cell b.board.w x y))) x y here (le_refl _)
