-- What the changeover answers is the floor of numerator by divisor: the quotient where the numerator is not below zero, and
-- where it is, nought less the quotient of its size rounded up. Assumes nothing.
use mathlib.Core.Path.{◌≡◌, sym, subst}
use Prim.Native.Nat.{ℕ, zero, suc, ◌+◌, ◌-◌, ◌*◌, ◌/◌, ◌^◌, ◌≤◌, ◌<◌}
use native.Mathlib.Nat.{mul-le-mul, div-le_self, le-div_iff_mul-le, div-lt_iff_lt-mul}
use native.Mathlib.Omega.{arith}
use lib.IntN.{ℤ, pos, ◌-ℤ◌}
use mir.Syntax.{w32}
use mir.Val.{SFits, to_z, of_z}
use mir.ValLaws.{to_z_pos, to_z-of_z}
use borrow.Author.Tests.{lt-ltb}
use Rattle.std.specs.Int.{div_ceil}
use Rattle.std.proofs.lemmas.Grind.{div_ceil_times}
use Rattle.rules.specs.Limits.{column_limit}
use Rattle.rules.specs.Changeover.{Changeover, numerator, divisor, floor}
use Rattle.rules.specs.Calls.{ChangeoverCall}
use Rattle.rules.proofs.Changeover.{changeover_floor, floor_up, floor_down}
use Rattle.rules.proofs.Refusals.{Comparable, changeover_good}
use Rattle.rules.proofs.Calls.{made_call}

-- a quotient rounded up is the quotient of the divisor less one more
rounded_up : (x d : ℕ) → 0 < d → div_ceil x d ≡ (x + d - 1) / d
rounded_up x d some =
    let times = div_ceil_times x d some in
    let at_most : div_ceil x d ≤ (x + d - 1) / d = (le-div_iff_mul-le some).1 (omega arith) in
    let below : (x + d - 1) / d < div_ceil x d + 1 = (div-lt_iff_lt-mul some).1 (omega arith) in
    omega arith

-- nought less a small number is a whole number of 32 bits
below_fits : (n : ℕ) → n < 2 ^ 31 → SFits w32 (pos 0 -ℤ pos n)
below_fits zero h = record { sfits = omega arith }
below_fits (suc n) h = record { sfits = rw (lt-ltb 0 (suc n) (omega arith)) (omega arith) }

module _ {i u a b : ℕ} (g : Comparable i u a b) where
  -- the square of a column is small
  square_small : {k : ℕ} → k ≤ column_limit → k * k ≤ column_limit * column_limit
  square_small h = mul-le-mul h h

  -- the floor is the answer
  answered : (z : ℤ) → z ≡ floor (numerator i u a b) (divisor i u) → ChangeoverCall i u a b 0 z
  answered z is =
      made_call (rw (changeover_good i u a b g))
      (subst (λ q. Changeover i u a b q) (sym is) (changeover_floor i u a b g.left))

  -- not below zero
  pub answered_up : (p : ℕ) → i * i + a ≤ u * u + b → p ≡ (u * u + b - (i * i + a)) / (2 * (u - i))
      → ChangeoverCall i u a b 0 (to_z w32 p)
  answered_up p h e =
      let small : p < 2 ^ 31 = omega (arith, div-le_self (u * u + b - (i * i + a)) (2 * (u - i)), square_small g.column_to, g.right_to) in
      rw (to_z_pos w32 p small) (answered (pos p) (rw e (floor_up (u * u + b) (i * i + a) (2 * (u - i)) h)))

  -- below zero
  pub answered_down : (p : ℕ) → u * u + b < i * i + a → p ≡ div_ceil (i * i + a - (u * u + b)) (2 * (u - i))
      → ChangeoverCall i u a b 0 (to_z w32 (of_z w32 (pos 0 -ℤ to_z w32 p)))
  answered_down p h e =
      let left : i ≤ column_limit = omega (arith, g.left, g.column_to) in
      let is : p ≡ (i * i + a - (u * u + b) + 2 * (u - i) - 1) / (2 * (u - i)) = rw e (rounded_up _ _ (omega (arith, g.left))) in
      let small : p < 2 ^ 31 = omega (arith, div-le_self (i * i + a - (u * u + b) + 2 * (u - i) - 1) (2 * (u - i)), square_small left, g.left_to, g.column_to) in
      rw (to_z_pos w32 p small, to_z-of_z w32 _ (below_fits p small))
      (answered (pos 0 -ℤ pos p) (rw is (floor_down (u * u + b) (i * i + a) (2 * (u - i)) (omega (arith, g.left)) h)))
