use native.Mathlib.Omega.{arith}
use Rattle.lane_search.proofs.Lanes.{halving_begins}
use Rattle.lane_search.proofs.widths.Asked.width.Goals as goal

pub loop-low-init : goal.loop-low-init
loop-low-init c =
    let asked = c.args.self.now in record {
      lists = c.requires;
      in_order = omega arith;
      fits = c.min-high.type_inv;
      between = rw c.min-high.ensures (halving_begins asked.from_inside asked.to_inside);
    }
