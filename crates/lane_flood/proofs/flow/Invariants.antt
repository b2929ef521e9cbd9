-- `lane_flood::flow` meets its contract. The loop's invariant: a flood under way. The measure is how many places of the
-- queue are left for the head. Assumes nothing.
use Prim.Native.Nat.{◌-◌}
use lib.ListN.{length}
use Rattle.lane_flood.specs.Around.{Lists}
use Rattle.lane_flood.specs.Labelling.{at, Flow}
use Rattle.lane_flood.proofs.flow.Given as goal

abbrev pub invariant-loop-head : goal.invariant-loop-head
invariant-loop-head l = Lists l.w l.words l.labels l.queue × Flow l.w (length l.words) (at l.words) l.v (at l.initial.queue 0) (at l.labels) (at l.queue) l.head l.tail

abbrev pub decreases-loop-head : goal.decreases-loop-head
decreases-loop-head l = length l.words - l.head
