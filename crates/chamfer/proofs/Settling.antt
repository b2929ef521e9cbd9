-- The events of a scan. A turn settles a cell; the scan goes on from where it stands. A settled cell took from neighbours
-- that the scan did earlier, so no later turn changes a word that went into its own. Assumes nothing.
use mathlib.Core.Path.{◌≡◌, refl, ◌∙◌}
use mathlib.Core.Logic.{inl, inr, ⊎_elim, by_cases}
use mathlib.Core.List.{List}
use Prim.Native.Nat.{ℕ, zero, suc, ◌+◌, ◌*◌, ◌≤◌, ◌<◌}
use native.Mathlib.Decide.{dec_lt}
use native.Mathlib.Omega.{arith}
use lib.ListN.{set}
use lib.Seq.{get_or-set_other}
use Rattle.rules.specs.Board.{cell}
use Rattle.chamfer_turn.specs.Neighbours.{Weighed, Words, On, word, Neighbour, Lowest, CellTurned}
use Rattle.chamfer.specs.Scans.{half, whole, Settled}
use Rattle.chamfer_turn.proofs.Cells.{each_word, words_after}
use Rattle.chamfer.proofs.Order.{forward_scan, backward_scan, Before, earlier}

-- a lowest word stays the lowest while it is kept and the words of the neighbours that it is taken from are kept
still_lowest : {b : Weighed} {words words' : List ℕ} {x y from to own v v' : ℕ}
    → v' ≡ v
    → ((k x' y' : ℕ) → from ≤ k → k < to → Neighbour b k x y x' y' → word b words' x' y' ≡ word b words x' y')
    → Lowest b words x y from to own v
    → Lowest b words' x y from to own v'
still_lowest e same L =
    rw e
    (record {
      no_more = L.no_more;
      no_more_through = λ k x' y' f t n. rw (same k x' y' f t n) (L.no_more_through k x' y' f t n);
      made =
          ⊎_elim inl
          (λ o.
          inr
          (record {
            k = o.k;
            x' = o.x';
            y' = o.y';
            step_from = o.step_from;
            step_to = o.step_to;
            neighbour = o.neighbour;
            offer_is = rw (same o.k o.x' o.y' o.step_from o.step_to o.neighbour) o.offer_is;
          }))
          L.made;
    })

-- a scan's own steps lead from a cell to others
not_itself : (scan : ℕ) {c c' : ℕ} → Before scan c c' → c ≡ c' → ⊥
not_itself zero l e = omega arith
not_itself (suc n) l e = omega arith

-- a turn with the scan's own steps settles one cell
pub one_turn : {b : Weighed} (scan : ℕ) {x y u : ℕ} {before after : List ℕ}
    → scan < 2
    → u ≡ cell b.board.w x y + 1
    → Words b before
    → On b x y
    → CellTurned b x y (4 * scan) (4 * scan + 4) before after
    → Settled b (4 * scan) (4 * scan + 4) (cell b.board.w x y) u before after
one_turn {b} scan {x} {y} {u} {before} scan_in e W here T =
    let c : ℕ = cell b.board.w x y in
    let v : ℕ = T.v in
    rw T.stored
    (record {
      words = words_after W here (omega (arith, T.lowest.no_more, W.most (cell b.board.w x y)));
      settled =
          each_word W here
          (λ x' y' n. c ≤ cell b.board.w x' y' → cell b.board.w x' y' < u
          → Lowest b (set before c v) x' y' (4 * scan) (4 * scan + 4) (word b before x' y') n)
          (λ l m.
          still_lowest refl
          (λ k x' y' f t n.
          get_or-set_other before c (cell b.board.w x' y') v 0 (not_itself scan (earlier here scan k scan_in f t n)))
          T.lowest)
          (λ x' y' on other l m. absurd (other (omega arith)));
      kept_below =
          each_word W here (λ x' y' n. cell b.board.w x' y' < c → n ≡ word b before x' y') (λ l. absurd (omega arith))
          (λ x' y' on other l. refl);
      kept_above =
          each_word W here (λ x' y' n. u ≤ cell b.board.w x' y' → n ≡ word b before x' y')
          (λ l. absurd (omega arith))
          (λ x' y' on other l. refl);
    })

-- the forward scan goes on from number u
pub forward_on : {b : Weighed} {t u v : ℕ} {before between after : List ℕ}
    → t ≤ u
    → u ≤ v
    → Settled b 0 half t u before between
    → Settled b 0 half u v between after
    → Settled b 0 half t v before after
forward_on {b} {t} {u} l m S T =
    record {
      words = T.words;
      settled = λ x y on from_t to_v.
          by_cases (dec_lt (cell b.board.w x y) u)
          (λ below.
          still_lowest (T.kept_below x y on below)
          (λ k x' y' f g n.
          let before_u = earlier on forward_scan k (omega arith) f g n in
          T.kept_below x' y' n.on_board (omega arith))
          (S.settled x y on from_t below))
          (λ past. rw (← S.kept_above x y on (omega arith)) (T.settled x y on (omega arith) to_v));
      kept_below = λ x y on below. T.kept_below x y on (omega arith) ∙ S.kept_below x y on below;
      kept_above = λ x y on above. T.kept_above x y on above ∙ S.kept_above x y on (omega arith);
    }

-- the backward scan goes on from number u down
pub backward_on : {b : Weighed} {t u v : ℕ} {before between after : List ℕ}
    → t ≤ u
    → u ≤ v
    → Settled b half whole u v before between
    → Settled b half whole t u between after
    → Settled b half whole t v before after
backward_on {b} {t} {u} l m S T =
    record {
      words = T.words;
      settled = λ x y on from_t to_v.
          by_cases (dec_lt (cell b.board.w x y) u)
          (λ below. rw (← S.kept_below x y on below) (T.settled x y on from_t below))
          (λ past.
          still_lowest (T.kept_above x y on (omega arith))
          (λ k x' y' f g n.
          let from_u = earlier on backward_scan k (omega arith) f g n in
          T.kept_above x' y' n.on_board (omega arith))
          (S.settled x y on (omega arith) to_v));
      kept_below = λ x y on below. T.kept_below x y on below ∙ S.kept_below x y on (omega arith);
      kept_above = λ x y on above. T.kept_above x y on (omega arith) ∙ S.kept_above x y on above;
    }
