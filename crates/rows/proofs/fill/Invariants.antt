-- `rows::fill` meets its contract. The loop's invariant: the values before i are what the calls gave. Assumes nothing.
use Rattle.std.proofs.Common.{ℕ, ◌<◌, get_or, length, ◌≡◌}
use Rattle.rows.proofs.fill.Given as goal

abbrev pub invariant-loop-i : goal.invariant-loop-i
invariant-loop-i g l = ((k : ℕ) → k < l.i → goal.F-post g l.stands_at k (get_or l.words k 0) (get_or l.values k 0)) × (length l.values ≡ length l.words)
