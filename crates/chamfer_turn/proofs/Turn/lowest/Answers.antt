-- One step more, and at the end the steps before `k` are all of them. Assumes nothing.
use mathlib.Core.Path.{◌≡◌}
use native.Mathlib.Omega.{arith}
use Rattle.chamfer_turn.proofs.Taking.{one_more}
use Rattle.chamfer_turn.proofs.Turn.lowest.Goals as goal

pub loop-k-preserved : goal.loop-k-preserved
loop-k-preserved c = one_more (omega arith) c.loop-k.invariant c.lesser-best.ensures

pub returns : goal.returns
returns c =
    let all : c.loop-k.k ≡ c.args.to = omega arith in
    rw all at c.loop-k.invariant
