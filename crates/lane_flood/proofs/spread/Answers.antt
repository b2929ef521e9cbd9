use mathlib.Core.Path.{refl}
use Prim.Native.Nat.{◌<◌}
use native.Mathlib.Omega.{arith}
use Rattle.lane_flood.proofs.Around.{side_at}
use Rattle.lane_flood.proofs.Flowing.{queue_few, head_cell}
use Rattle.lane_flood.proofs.Touching.{room, none_touched, touched, spread_out}
use Rattle.lane_flood.proofs.spread.Goals.{in-Some, in_default}
use Rattle.lane_flood.proofs.spread.Goals as goal

pub returns : goal.returns
returns c = spread_out c.loop-side.invariant c.requires.lists.board.from c.loop-side-test.false

pub offset_bounds-queue-head : goal.offset_bounds-queue-head
offset_bounds-queue-head c = omega (arith, queue_few c.requires.flow)

pub bounds-queue-head : goal.bounds-queue-head
bounds-queue-head c = omega (arith, queue_few c.requires.flow)

pub overflow_add-d : goal.overflow_add-d
overflow_add-d c = omega (arith, head_cell c.requires.flow c.requires.more refl)

pub touch-tail-requires-clause-room : goal.touch-tail-requires-clause-room
touch-tail-requires-clause-room c =
    let (inside, _) = rw c.in-Some.is at c.beside.ensures.lies in
    room c.loop-side.invariant c.in-Some.p inside

pub loop-side-preserved : goal.loop-side-preserved
loop-side-preserved c =
    let k_in : c.loop-side.side-index < 4 = omega arith in
    let here = side_at k_in c.beside.ensures in
    elim c.match-beside.branch [
      | in-Some w ↦
          rw (w.labels-is, w.queue-is, w.tail-is)
          (touched c.loop-side.invariant c.requires.lists.board.from k_in (rw w.in-Some.is at here)
          w.touch-tail.ensures)
      | in_default w ↦
          rw (w.labels-is, w.queue-is, w.tail-is)
          (none_touched c.loop-side.invariant k_in (rw w.in_default.is at here))
    ]
