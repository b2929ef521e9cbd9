-- `knob::fill` meets its contract: a turn fills one more byte. Assumes nothing.
use Rattle.std.proofs.Common.{ℕ, List, get_or}
use Rattle.rules.specs.Knob.{clear_byte}
use Rattle.rules.proofs.Filling.{Filling}
use Rattle.knob.proofs.fill.Given as goal

-- the byte of place k
abbrev pub byte_at : ℕ → ℕ → List ℕ → ℕ → ℕ
byte_at a b squares k = clear_byte a b (get_or squares k 0)

abbrev pub invariant-loop-i : goal.invariant-loop-i
invariant-loop-i l = Filling (byte_at l.opening.a l.opening.b l.squares) l.initial.clear l.clear l.i
