-- `lane_flood::spread` meets its contract. The loop's invariant: the sides before this one have come up. Assumes nothing.
use Rattle.lane_flood.specs.Labelling.{at}
use Rattle.lane_flood.proofs.Touching.{Spreading}
use Rattle.lane_flood.proofs.spread.Given as goal

abbrev pub invariant-loop-side : goal.invariant-loop-side
invariant-loop-side l = Spreading l.w l.words l.v (at l.initial.queue 0) l.head l.c l.d l.labels l.queue l.tail l.side-index
