-- `line_check::try_kind` meets its contract. The loop's invariant: the tally is of as many lines as turns are done. Assumes
-- nothing.
use Rattle.std.proofs.Common.{◌≡◌}
use Rattle.line_check.proofs.try_kind.Given as goal

abbrev pub invariant-loop : goal.invariant-loop
invariant-loop l = l.tally.lines ≡ l.counter
