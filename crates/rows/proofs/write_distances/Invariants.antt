-- `rows::write_distances` meets its contract. The loop's invariant: the places before x have the heights of their winners.
-- Assumes nothing.
use lib.ListN.{get_or}
use Rattle.rules.proofs.Filling.{Filling}
use Rattle.gauge.specs.Line.{height_at}
use Rattle.rows.proofs.write_distances.Given as goal

abbrev pub invariant-loop-x : goal.invariant-loop-x
invariant-loop-x l = Filling (λ k. height_at l.g.kind l.values (get_or l.winners k 0) k) l.initial.distances l.distances l.x
