-- The steps of the table, one at a time. In one direction a step goes one back, none or one on. Assumes nothing.
use mathlib.Core.Path.{◌≡◌, sym, ◌∙◌, ap}
use Prim.Native.Nat.{ℕ, zero, suc, ◌-◌, ◌<◌}
use native.Mathlib.Omega.{arith}
use lib.IntN.{pos, ◌+ℤ◌, -ℤ_one}
use Rattle.rules.specs.Table.{back, none}

-- one back
pub one_back : (n : ℕ) → 0 < n → pos (n - 1) ≡ pos n +ℤ back
one_back zero l = absurd (omega arith)
one_back (suc n) l = ap pos (omega arith) ∙ sym (-ℤ_one (pos (suc n)))

-- none
pub no_step : (n : ℕ) → pos n ≡ pos n +ℤ none
no_step n = ap pos (omega arith)
