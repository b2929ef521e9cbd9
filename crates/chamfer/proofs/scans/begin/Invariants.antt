-- `chamfer::scans::begin` meets its contract. The loop's invariant: the cells before number `c` have their first words.
-- Assumes nothing.
use mathlib.Core.Path.{◌≡◌}
use Prim.Native.Nat.{ℕ, ◌<◌}
use lib.ListN.{get_or}
use Rattle.chamfer.specs.Scans.{first_word}
use Rattle.chamfer.proofs.scans.begin.Given as goal

abbrev pub invariant-loop-c : goal.invariant-loop-c
invariant-loop-c l = (k : ℕ) → k < l.c → get_or l.words k 0 ≡ first_word (get_or l.picture k 0)
