-- `line_check::lines::Generator::fill` meets its contract. The loop's invariant: none of the values written so far is above
-- the line limit. Assumes nothing.
use Rattle.std.proofs.Common.{ℕ, ◌≤◌, ◌<◌, get_or}
use Rattle.rules.specs.Limits.{line_limit}
use Rattle.line_check.proofs.lines.Generator.fill.Given as goal

abbrev pub invariant-loop-value : goal.invariant-loop-value
invariant-loop-value l = (i : ℕ) → i < l.value-index → get_or l.values i 0 ≤ line_limit
