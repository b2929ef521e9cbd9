-- The kinds of pictures that are no kinds of lines. Assumes nothing.
use mathlib.Core.Path.{◌≡◌, refl}
use mathlib.Core.Logic.{◌≢◌}
use Prim.Native.Nat.{ℕ, zero, suc, ◌≤◌}
use native.Mathlib.Omega.{arith}
use Rattle.rules.specs.Limits.{kind_limit}
use Rattle.rules.specs.Measures.{chamfer_kind}
use Rattle.rules.specs.Answers.{kind_number}
use Rattle.rules.specs.declared.kind.LineKind.{LineKind}
use Rattle.rules.specs.declared.kind.LineKind.TheVariants.{Euclid, Manhattan, Chessboard}

-- there is one: the chamfer's
pub chamfer_left : (n : ℕ) → n ≤ kind_limit → ((kind : LineKind) → kind_number kind ≢ n) → n ≡ chamfer_kind
chamfer_left zero l none = absurd (none Euclid refl)
chamfer_left (suc zero) l none = absurd (none Manhattan refl)
chamfer_left (suc (suc zero)) l none = absurd (none Chessboard refl)
chamfer_left (suc (suc (suc n))) l none = omega arith
