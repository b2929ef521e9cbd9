-- `line_check::main` is safe. The loop's invariant: the tally is of as many kinds as turns are done, so that its lines fit.
-- Assumes nothing.
use Rattle.std.proofs.Common.{◌≡◌, ◌*◌}
use Rattle.line_check.specs.declared.TheConstants.{LINES}
use Rattle.line_check.proofs.main.Given as goal

abbrev pub invariant-loop-kind : goal.invariant-loop-kind
invariant-loop-kind l = l.all.lines ≡ l.kind-index * LINES
