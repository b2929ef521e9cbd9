-- How many cells are bored. Boring a cell makes it one more where it was sound; a sound board has none, and no board has
-- more than its cells. Assumes nothing.
use mathlib.Core.Path.{◌≡◌, refl}
use mathlib.Core.Bool.{Bool, true, false, not, cond}
use mathlib.Core.List.{List, [], ◌∷◌}
use Prim.Native.Nat.{ℕ, zero, suc, ◌+◌, ◌≤◌, ◌<◌}
use native.Mathlib.Nat.{le_of_suc-le-suc}
use native.Mathlib.Omega.{arith}
use lib.Dec.{eqb}
use lib.ListN.{length, get_or, set, replicate}
use Rattle.std.specs.Int.{from_bool}
use Rattle.rules.specs.BenchFile.{bores}

-- a cell counts once, before it is bored or after
once : (b : Bool) → from_bool (not b) + cond b 1 0 ≡ 1
once true = refl
once false = refl

-- a cell that was sound is one more
pub bored_anew : (picture : List ℕ) (c : ℕ) → c < length picture
    → from_bool (not (eqb (get_or picture c 0) 1)) + bores picture ≡ bores (set picture c 1)
bored_anew [] c h = absurd (omega arith)
bored_anew (b ∷ bs) zero h = omega (arith, once (eqb b 1))
bored_anew (b ∷ bs) (suc c) h = omega (arith, bored_anew bs c (le_of_suc-le-suc h))

-- a cell counts at most once
at_most_once : (b : Bool) → cond b 1 0 ≤ 1
at_most_once true = omega arith
at_most_once false = omega arith

-- no more cells are bored than there are
pub bores_few : (picture : List ℕ) → bores picture ≤ length picture
bores_few [] = omega arith
bores_few (b ∷ bs) = omega (arith, at_most_once (eqb b 1), bores_few bs)

-- on a sound board none is
pub bores_none : (n : ℕ) → bores (replicate n 0) ≡ 0
bores_none zero = refl
bores_none (suc n) = omega (arith, bores_none n)
