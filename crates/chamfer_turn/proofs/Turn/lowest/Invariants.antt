-- `chamfer_turn::Turn::lowest` meets its contract. The loop's invariant: `best` is the least over the steps before `k`.
-- Assumes nothing.
use Rattle.chamfer_turn.specs.Neighbours.{weighed, word, Lowest}
use Rattle.chamfer_turn.proofs.Turn.lowest.Given as goal

abbrev pub invariant-loop-k : goal.invariant-loop-k
invariant-loop-k l =
    let t = l.self in
    Lowest (weighed t.chamfer) t.words.now t.x t.y l.from l.k (word (weighed t.chamfer) t.words.now t.x t.y) l.best
