-- `envelope::build` meets its contract. The loop's invariant: the work words hold the stretches of the columns
-- below u. Assumes nothing.
use lib.ListN.{length}
use Rattle.gauge.specs.Line.{height_at}
use Rattle.envelope.specs.Stretches.{Given, Stretches, starts, holders}
use Rattle.envelope.proofs.build.Given as goal

abbrev pub invariant-loop-u : goal.invariant-loop-u
invariant-loop-u l = Given l.values l.work
    × Stretches (height_at l.g.kind l.values) (length l.values) l.u l.m (starts l.work) (holders (length l.values) l.work)
