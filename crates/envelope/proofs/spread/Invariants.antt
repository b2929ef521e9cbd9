-- `envelope::spread` meets its contract. The loop's invariant: the places from x on have their holders, and the
-- place before x lies in the last stretch left. Assumes nothing.
use lib.ListN.{length}
use Rattle.envelope.proofs.Spreading.{Spreading}
use Rattle.envelope.proofs.spread.Given as goal

abbrev pub invariant-loop-x : goal.invariant-loop-x
invariant-loop-x l = Spreading l.work l.m (length l.initial.winners) l.winners l.q l.x
