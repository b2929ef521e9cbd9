-- `envelope::keep` meets its contract. The loop's invariant: every stretch from k on is to be taken off. Assumes nothing.
use lib.ListN.{length}
use Rattle.gauge.specs.Line.{height_at}
use Rattle.envelope.specs.Stretches.{starts, holders}
use Rattle.envelope.proofs.Taking.{Taken}
use Rattle.envelope.proofs.keep.Given as goal

abbrev pub invariant-loop-k : goal.invariant-loop-k
invariant-loop-k l = Taken (height_at l.g.kind l.values) l.u l.m (starts l.work) (holders (length l.values) l.work) l.k
