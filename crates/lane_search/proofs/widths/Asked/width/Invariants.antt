-- `lane_search::widths::Asked::width` meets its contract. The loop's invariant: some lane is as wide as `low`, and none
-- is wider than `high`. The measure is how far they are apart. Assumes nothing.
use Prim.Native.Nat.{◌-◌, ◌^◌, ◌≤◌, ◌<◌}
use lib.ListN.{length}
use Rattle.lane_flood.specs.Around.{Lists}
use Rattle.lane_flood.specs.Labelling.{at}
use Rattle.lane_search.specs.Course.{Between}
use Rattle.lane_search.proofs.widths.Asked.width.Given as goal

abbrev pub invariant-loop-low : goal.invariant-loop-low
invariant-loop-low l =
    record {
      lists : Lists l.self.w l.self.words.now l.labels l.queue;
      in_order : l.low ≤ l.high;
      fits : l.high < 2 ^ 32;
      between : Between l.self.w (length l.self.words.now) (at l.self.words.now) l.self.from l.self.to l.low l.high;
    }

abbrev pub decreases-loop-low : goal.decreases-loop-low
decreases-loop-low l = l.high - l.low
