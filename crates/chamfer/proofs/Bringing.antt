-- What a scan brings, by its promise and its order. Some bore is no farther from a cell than the cell's word: the word
-- stood there before, or it came through a neighbour, and one step changes the closed form by at most its weight. And the
-- word of a bore comes to the cell: it had come before the scan, or it comes to a neighbour one step nearer to the bore.
-- Assumes nothing.
use mathlib.Core.Logic.{⊎_elim}
use mathlib.Core.List.{List}
use Prim.Native.Nat.{ℕ, suc, ◌+◌, ◌*◌, ◌≤◌, ◌<◌}
use native.Mathlib.Omega.{arith}
use Rattle.rules.specs.Measures.{Weights}
use Rattle.rules.specs.Table.{step, none}
use Rattle.rules.specs.declared.Choice.TheVariants.{D1}
use Rattle.rules.proofs.Board.{cell_in}
use Rattle.rules.proofs.Table.{step_listed, never_too_small}
use Rattle.chamfer_turn.specs.Neighbours.{Weighed, On, word, Lowest}
use Rattle.chamfer.specs.Scans.{Scan}
use Rattle.chamfer.proofs.Order.{along}
use Rattle.chamfer.proofs.Bounds.{Bore, apart, Held, Come, Bounded}
use Rattle.chamfer.proofs.Nearer.{nearer}

module _ {b : Weighed} (scan : ℕ) {picture before after : List ℕ} (scan_in : scan < 2)
    (weights : Weights b.d1 b.d2) (S : Scan b (4 * scan) (4 * scan + 4) before after) (R : Bounded b picture before scan) where
  -- a cell has the least of its own word before and of what its neighbours by the scan's steps offer
  lowest : (x y : ℕ) → On b x y
      → Lowest b after x y (4 * scan) (4 * scan + 4) (word b before x y) (word b after x y)
  lowest x y on = S.settled x y on (omega arith) (cell_in on.column_in on.row_in)

  -- some bore holds each cell
  held : (x y : ℕ) → On b x y → Held b picture x y (word b after x y)
  held =
      along b scan scan_in (λ x y. Held b picture x y (word b after x y))
      (λ x y on nearby.
      ⊎_elim (λ e. rw e (R.never_less x y on))
      (λ o.
      let near = nearby o.k o.x' o.y' o.step_from o.step_to o.neighbour in
      let listed = step_listed o.k (step none none D1) (omega (arith, o.step_to)) in
      let change = never_too_small near.i near.j weights listed o.neighbour.leads in
      record { i = near.i; j = near.j; bore = near.bore; no_farther = omega (arith, change.0, o.offer_is) })
      (lowest x y on).made)

  -- the word of a bore comes to each cell
  comes : (i j : ℕ) → Bore b picture i j → (x y : ℕ) → On b x y → Come (suc scan) i j x y
      → word b after x y ≤ apart b x y i j
  comes i j bore =
      along b scan scan_in (λ x y. Come (suc scan) i j x y → word b after x y ≤ apart b x y i j)
      (λ x y on nearby come.
      ⊎_elim
      (λ come_before. omega (arith, (lowest x y on).no_more, R.never_more i j bore x y on come_before))
      (λ n.
      let through = (lowest x y on).no_more_through n.k n.x' n.y' n.own.0 n.own.1 n.neighbour in
      let near = nearby n.k n.x' n.y' n.own.0 n.own.1 n.neighbour n.comes in
      omega (arith, n.less))
      (nearer scan scan_in on bore.on_board come))

  -- what the words are after the scan
  pub brought : Bounded b picture after (suc scan)
  brought = record { never_less = held; never_more = comes }
