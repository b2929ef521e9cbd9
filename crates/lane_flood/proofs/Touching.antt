-- The flood in its lists. The first stores begin it; and when a side of the head comes up, what `touch` leaves is a flood
-- under way with one more side done. Assumes nothing.
use mathlib.Core.Path.{◌≡◌, ◌∙◌, sym, ap, subst}
use mathlib.Core.Logic.{◌≢◌}
use mathlib.Core.List.{List}
use Prim.Native.Nat.{ℕ, ◌+◌, ◌≤◌, ◌<◌}
use native.Mathlib.Omega.{arith}
use lib.ListN.{length, set, length-set}
use lib.Seq.{get_or-set_same, get_or-set_other}
use Rattle.rules.specs.Lane.{Neighbours}
use Rattle.std.proofs.Common.{Some, None}
use Rattle.lane_flood.specs.Around.{Beside}
use Rattle.lane_flood.specs.Labelling.{at, Flow, Sided, Touched, passed, entered}
use Rattle.lane_flood.proofs.Around.{lies_near}
use Rattle.lane_flood.proofs.Marks.{marks_room, marks_none, marks_more}
use Rattle.lane_flood.proofs.Flowing.{flow_begins, from_origin, side_empty, side_passed, side_entered, flow_enters, head_moves}

-- the far end gets its label and enters the queue, when no cell has a label
pub begun : {w v to : ℕ} (words labels queue : List ℕ) → length labels ≡ length words → length queue ≡ length words
    → to < length words → v ≤ at words to → ((c : ℕ) → c < length labels → at labels c ≡ 0)
    → Flow w (length words) (at words) v (at (set queue 0 to) 0) (at (set labels to 1)) (at (set queue 0 to)) 0 1
begun {w} {v} {to} words labels queue a b inside broad none =
    let first : at (set queue 0 to) 0 ≡ to = get_or-set_same queue 0 to 0 (omega arith) in
    let one : at (set labels to 1) to ≡ 1 = get_or-set_same labels to 1 0 (omega arith) in
    let others : (c : ℕ) → c ≢ to → at (set labels to 1) c ≡ at labels c = λ c o. get_or-set_other labels to c 1 0 o in
    let none' : (c : ℕ) → c < length words → at labels c ≡ 0 = λ c h. none c (omega arith) in
    from_origin (flow_begins (at (set labels to 1)) (at (set queue 0 to)) inside broad first one
    (λ c h o. others c o ∙ none' c h)
    (omega (
      arith,
      marks_none (at labels) (length words) none',
      marks_more (at labels) (at (set labels to 1)) to others (length words) inside (none' to inside) (omega arith),
    )))

-- the cell c stands at the head, d is the next label, and of its sides those before k are done
pub record Spreading (w : ℕ) (words : List ℕ) (v to head c d : ℕ) (labels queue : List ℕ) (tail k : ℕ) : Type 0 where
  pub labels_long : length labels ≡ length words
  pub queue_long : length queue ≡ length words
  pub sides_in : k ≤ 4
  pub more : head < tail
  pub cell_is : c ≡ at queue head
  pub label_is : d ≡ at labels c + 1
  pub flow : Flow w (length words) (at words) v to (at labels) (at queue) head tail
  pub sides : Sided w (length words) (at words) v (at labels) c k

module _ {w : ℕ} {words : List ℕ} {v to head c d : ℕ} {labels queue : List ℕ} {tail k : ℕ}
    (S : Spreading w words v to head c d labels queue tail k) where
  -- where a cell has no label the queue has room
  pub room : (p : ℕ) → p < length words → at labels p ≡ 0 → tail < length words
  room p h free = omega (arith, S.flow.counted, marks_room (at labels) (length words) p h free)

  -- when the four sides have come up, the head moves on
  pub spread_out : 0 < w → 4 ≤ k → Flow w (length words) (at words) v to (at labels) (at queue) (head + 1) tail
  spread_out pos all =
      let four : k ≡ 4 = omega (arith, S.sides_in) in
      head_moves S.flow pos S.more (rw (S.cell_is, four) at S.sides)

  -- side k has no cell
  pub none_touched : k < 4 → Beside w (length words) c k None → Spreading w words v to head c d labels queue tail (k + 1)
  none_touched k_in side =
      record {
        labels_long = S.labels_long;
        queue_long = S.queue_long;
        sides_in = omega arith;
        more = S.more;
        cell_is = S.cell_is;
        label_is = S.label_is;
        flow = S.flow;
        sides = rw S.cell_is (side_empty S.flow (rw S.cell_is at side) (rw S.cell_is at S.sides));
      }

  -- the cell on side k comes up
  pub touched : {p tail' : ℕ} {labels' queue' : List ℕ} → 0 < w → k < 4 → Beside w (length words) c k (Some p)
      → Touched (length words) v p d words labels queue tail labels' queue' tail'
      → Spreading w words v to head c d labels' queue' tail' (k + 1)
  touched {p} {tail'} {labels'} {queue'} pos k_in side (passed old e f g) =
      rw (e, f, g) (record {
        labels_long = S.labels_long;
        queue_long = S.queue_long;
        sides_in = omega arith;
        more = S.more;
        cell_is = S.cell_is;
        label_is = S.label_is;
        flow = S.flow;
        sides =
            rw S.cell_is
            (side_passed S.flow S.more (rw S.cell_is at side) old (rw S.cell_is at S.sides));
      })
  touched {p} pos k_in side (entered p_in broad free e f g) =
      rw (e, f, g) (record {
        labels_long = simp length-set S.labels_long;
        queue_long = simp length-set S.queue_long;
        sides_in = omega arith;
        more = omega (arith, S.more);
        cell_is = still;
        label_is = S.label_is ∙ ap (λ l. l + 1) (sym (others c apart));
        flow = flow_enters S.flow p S.more near p_in broad free new others put stay;
        sides =
            subst (λ q. Sided w (length words) (at words) v (at (set labels p d)) q (k + 1)) (sym still)
            (side_entered S.flow p S.more near p_in broad free new others put stay (rw S.cell_is at side)
            (rw S.cell_is at S.sides));
      })
    where
      near : Neighbours w (at queue head) p
      near = rw S.cell_is at (lies_near w c p k pos side.lies.1)

      new : at (set labels p d) p ≡ at labels (at queue head) + 1
      new = get_or-set_same labels p d 0 (omega (arith, S.labels_long)) ∙ rw S.cell_is at S.label_is

      others : (q : ℕ) → q ≢ p → at (set labels p d) q ≡ at labels q
      others q o = get_or-set_other labels p q d 0 o

      put : at (set queue tail p) tail ≡ p
      put = get_or-set_same queue tail p 0 (omega (arith, S.queue_long, room p p_in free))

      stay : (i : ℕ) → i ≢ tail → at (set queue tail p) i ≡ at queue i
      stay i o = get_or-set_other queue tail i p 0 o

      still : c ≡ at (set queue tail p) head
      still = S.cell_is ∙ sym (stay head (omega (arith, S.more)))

      apart : c ≢ p
      apart e = omega (arith, ap (at labels) e, ap (at labels) S.cell_is, S.flow.labelled head S.more)
