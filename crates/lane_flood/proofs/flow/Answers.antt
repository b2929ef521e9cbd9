use native.Mathlib.Omega.{arith}
use Rattle.lane_flood.proofs.Around.{lists_kept}
use Rattle.lane_flood.proofs.Flowing.{queue_few, from_origin, as_begun, flow_ends}
use Rattle.lane_flood.proofs.flow.Goals as goal

pub spread-tail-requires-clause-flow : goal.spread-tail-requires-clause-flow
spread-tail-requires-clause-flow c = from_origin c.loop-head.invariant.1

pub overflow_add-head : goal.overflow_add-head
overflow_add-head c = omega (arith, queue_few c.loop-head.invariant.1)

pub loop-head-smaller : goal.loop-head-smaller
loop-head-smaller c = omega (arith, queue_few c.loop-head.invariant.1)

pub loop-head-preserved : goal.loop-head-preserved
loop-head-preserved c =
    let i = c.loop-head.invariant in (
      lists_kept c.args.words.now c.loop-head.labels c.loop-head.queue _ _ i.0 c.spread-tail.auto.labels
          c.spread-tail.auto.queue,
      as_begun i.1 c.spread-tail.ensures,
    )

pub returns : goal.returns
returns c = flow_ends c.loop-head.invariant.1 c.loop-head-test.false
