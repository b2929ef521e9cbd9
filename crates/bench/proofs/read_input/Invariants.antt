-- `bench::read_input` reads within the room. The loop's invariant: the bytes from the room's start to n came from the
-- input. The measure is the room that is left.
use Rattle.std.proofs.Common.{length, take, ◌-◌, ◌≤◌}
use Rattle.std.specs.Io.KnownBytes.{Consumes}
use Rattle.bench.proofs.read_input.Given as goal

abbrev pub invariant-loop-n : goal.invariant-loop-n
invariant-loop-n g l = (l.n ≤ length l.room) × Consumes (g.R.Read.remaining l.fn.input) (g.R.Read.remaining l.input) (take l.n l.room)

abbrev pub decreases-loop-n : goal.decreases-loop-n
decreases-loop-n g l = length l.initial.room - l.n
