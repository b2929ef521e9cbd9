-- A scan's promise, or that of a part of it, pins the words that are left: in the order of the scan, a cell whose
-- neighbours have the same words in two such lists has the least of the same numbers in both. Assumes nothing.
use mathlib.Core.Path.{◌≡◌, sym, ◌∙◌}
use mathlib.Core.Logic.{⊎_elim, by_cases}
use mathlib.Core.List.{List}
use Prim.Native.Nat.{ℕ, ◌+◌, ◌*◌, ◌≤◌, ◌<◌}
use native.Mathlib.Nat.{le_antisymm}
use native.Mathlib.Decide.{dec_le, dec_lt}
use native.Mathlib.Omega.{arith}
use lib.Seq.{ext_get_or}
use Rattle.rules.specs.Board.{cell, column, row}
use Rattle.rules.proofs.Board.{cell_of, column_below, row_below}
use Rattle.rules.specs.declared.sized.Board.{Board}
use Rattle.chamfer_turn.specs.Neighbours.{Weighed, On, word, Neighbour, Lowest}
use Rattle.chamfer.specs.Scans.{half, whole, Settled, Scan}
use Rattle.chamfer.proofs.Order.{forward_scan, backward_scan, along}

-- a lowest word is no more than another, if the neighbours have the same words
no_higher : {b : Weighed} {words words' : List ℕ} {x y from to own v v' : ℕ}
    → ((k x' y' : ℕ) → from ≤ k → k < to → Neighbour b k x y x' y' → word b words x' y' ≡ word b words' x' y')
    → Lowest b words x y from to own v
    → Lowest b words' x y from to own v'
    → v ≤ v'
no_higher same L L' =
    ⊎_elim (λ e. omega (arith, L.no_more))
    (λ o.
    let through = L.no_more_through o.k o.x' o.y' o.step_from o.step_to o.neighbour in
    omega (arith, o.offer_is, same o.k o.x' o.y' o.step_from o.step_to o.neighbour))
    L'.made

module _ {b : Weighed} (scan : ℕ) {t u : ℕ} {before after after' : List ℕ} (scan_in : scan < 2)
    (S : Settled b (4 * scan) (4 * scan + 4) t u before after)
    (S' : Settled b (4 * scan) (4 * scan + 4) t u before after') where
  -- each cell has the same word in both
  same_word : (x y : ℕ) → On b x y → word b after x y ≡ word b after' x y
  same_word =
      along b scan scan_in (λ x y. word b after x y ≡ word b after' x y)
      (λ x y on same.
      by_cases (dec_lt (cell b.board.w x y) t)
      (λ below. S.kept_below x y on below ∙ sym (S'.kept_below x y on below))
      (λ from_t.
      by_cases (dec_le u (cell b.board.w x y))
      (λ above. S.kept_above x y on above ∙ sym (S'.kept_above x y on above))
      (λ to_u.
      let d = S.settled x y on (omega arith) (omega arith) in
      let d' = S'.settled x y on (omega arith) (omega arith) in
      le_antisymm (no_higher same d d') (no_higher (λ k x' y' f g n. sym (same k x' y' f g n)) d' d))))

  -- the words before allow one list of words after
  pub settled_pinned : after ≡ after'
  settled_pinned =
      ext_get_or 0 after after' (S.words.one_each ∙ sym S'.words.one_each)
      (λ c l.
      let c_in : c < b.board.w * b.board.h = omega (arith, S.words.one_each) in
      rw (cell_of b.board.w c) at
      (same_word (column b.board.w c) (row b.board.w c)
      (record { column_in = column_below c b.board.sides.width_from; row_in = row_below b.board.w c_in })))

module _ {b : Weighed} {before after after' : List ℕ} where
  -- so the forward scan is pinned
  pub forward_pinned : Scan b 0 half before after → Scan b 0 half before after' → after ≡ after'
  forward_pinned S S' = settled_pinned forward_scan (omega arith) S S'

  -- and the backward scan
  pub backward_pinned : Scan b half whole before after → Scan b half whole before after' → after ≡ after'
  backward_pinned S S' = settled_pinned backward_scan (omega arith) S S'

-- a board with weights that no call accepts
abbrev pub unruled : Board → Weighed
unruled board = record { board = board; d1 = 0; d2 = 7 }

-- which is no exception, in the forward scan ..
pub unruled_forward : (board : Board) {before after after' : List ℕ}
    → Scan (unruled board) 0 half before after
    → Scan (unruled board) 0 half before after'
    → after ≡ after'
unruled_forward board S S' = forward_pinned S S'

-- .. and in the backward scan
pub unruled_backward : (board : Board) {before after after' : List ℕ}
    → Scan (unruled board) half whole before after
    → Scan (unruled board) half whole before after'
    → after ≡ after'
unruled_backward board S S' = backward_pinned S S'
