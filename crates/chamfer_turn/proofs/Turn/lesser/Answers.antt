-- `chamfer_turn::Turn::lesser` meets its contract. The step read is the printed one, so the column and the row worked
-- out are those of its neighbour, where there is one. Assumes nothing.
use Rattle.std.proofs.Common.{arith, rules, SFits, w32, to_z-of_z}
use Rattle.chamfer_turn.proofs.Taking.{taken}
use Rattle.chamfer_turn.proofs.Turn.lesser.Goals as goal

pub returns : goal.returns
returns c =
    let step = c.step_at-step.result in
    let rows : SFits w32 step.0 = search rules in
    let columns : SFits w32 step.1 = search rules in
    taken _ c.step_at-step.ensures (rw (to_z-of_z columns) at c.in-Some.ensures)
    (rw (to_z-of_z rows) at c.in-Some-moved.ensures) c.offer_of.ensures (omega arith)
