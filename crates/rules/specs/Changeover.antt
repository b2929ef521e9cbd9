-- "Changeover for i < u: the greatest whole p with (p−i)² + a ≤ (p−u)² + b." Whole numbers, negative ones too.
-- Assumes nothing.
use Rattle.std.specs.Prelude.{ℕ, ◌+◌, ◌-◌, ◌*◌, ◌/◌, ◌≤◌, ℤ, pos, negsuc, nat_abs, ◌-ℤ◌, ◌≤ℤ◌}

-- the square of a whole number
abbrev pub squared : ℤ → ℕ
squared z = nat_abs z * nat_abs z

-- (p−i)² + a ≤ (p−u)² + b
abbrev pub Holds : ℕ → ℕ → ℕ → ℕ → ℤ → Type 0
Holds i u a b p = squared (p -ℤ pos i) + a ≤ squared (p -ℤ pos u) + b

-- p is the changeover
pub record Changeover (i u a b : ℕ) (p : ℤ) : Type 0 where
  pub holds : Holds i u a b p
  pub greatest : (q : ℤ) → Holds i u a b q → q ≤ℤ p

-- "It is the floor of (u² − i² + b − a) / (2(u−i)).": the numerator, the divisor, and the floor, which for a negative
-- number is not the rounding towards zero
abbrev pub numerator : ℕ → ℕ → ℕ → ℕ → ℤ
numerator i u a b = pos (u * u + b) -ℤ pos (i * i + a)

abbrev pub divisor : ℕ → ℕ → ℕ
divisor i u = 2 * (u - i)

abbrev pub floor : ℤ → ℕ → ℤ
floor (pos n) d = pos (n / d)
floor (negsuc n) d = negsuc (n / d)
