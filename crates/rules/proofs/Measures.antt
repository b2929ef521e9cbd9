-- Kinds 0, 1 and 2 keep what the engine along a line and the step from columns to rows ask of a measure. The heart is
-- the initial stretch: of two columns i < u that hold the values a and b, where i holds at x it holds at every x' to
-- the left of x. A difference of columns enters by |x − i| + 2·min(x, i) = x + i, and its square in kind 0 by
-- |x − i|² + 2·x·i = x² + i². There x² stands on both sides, and what else depends on x is 2·x·(u − i), which is no
-- larger at x'. In kind 1, from x to x' the difference to i rises by no more than the difference to u. In kind 2, where
-- x is no farther from i than from u, neither is x', which is at least as far from u as x is; and where x is farther
-- from i than from u, that difference and a are at most b, and x' is no farther from i than x is, or than it is from
-- u. Assumes nothing.
use mathlib.Core.Path.{◌≡◌}
use mathlib.Core.Logic.{by_cases}
use Prim.Native.Nat.{ℕ, zero, suc, ◌+◌, ◌-◌, ◌*◌, ◌≤◌, ◌<◌, max}
use native.Mathlib.Nat.{mul-le-mul, mul-le-mul_right}
use native.Mathlib.Decide.{dec_le}
use native.Mathlib.Omega.{arith}
use Rattle.rules.specs.Board.{away}
use Rattle.rules.proofs.Board.{away_min, away_square}
use Rattle.rules.specs.Limits.{cost_kind_limit}
use Rattle.rules.specs.Measures.{measure, HasParts, HoldsAt, Lawful, Additive}
use Rattle.rules.specs.Answers.{kind_number}
use Rattle.rules.specs.declared.kind.LineKind.{LineKind}
use Rattle.rules.specs.declared.kind.LineKind.TheVariants.{Euclid, Manhattan, Chessboard}

-- the kinds of lines are kinds that have parts
pub has_parts : (kind : LineKind) → HasParts (kind_number kind)
has_parts Euclid = record { kind_in = omega arith; no_chamfer = λ e. omega (arith, e) }
has_parts Manhattan = record { kind_in = omega arith; no_chamfer = λ e. omega (arith, e) }
has_parts Chessboard = record { kind_in = omega arith; no_chamfer = λ e. omega (arith, e) }

-- of two columns d apart, the products that the squares leave are no larger at x'
crossed : (d i u x x' : ℕ) → d + i ≡ u → x' ≤ x → x' * u + x * i ≤ x' * i + x * u
crossed d i u x x' e h = rw (← e) (omega (arith, mul-le-mul_right d h))

-- where x is no farther from i than from u, neither is x', and x' is at least as far from u as x is
nearer : (i u x x' : ℕ) → i < u → x' ≤ x → away x i ≤ away x u → (away x' i ≤ away x' u) × (away x u ≤ away x' u)
nearer i u x x' l h n = omega (arith, away_min x i, away_min x u, away_min x' i, away_min x' u)

-- x' is no farther from i than x is, or than it is from u
bounded : (i u x x' : ℕ) → i < u → x' ≤ x → away x' i ≤ max (away x' u) (away x i)
bounded i u x x' l h = omega (arith, away_min x i, away_min x' i, away_min x' u)

-- where column i holds at x, it holds at x'
holds_on : (kind i u a b x x' : ℕ)
    → i < u
    → x' ≤ x
    → HoldsAt (measure kind) i u a b x
    → HoldsAt (measure kind) i u a b x'
holds_on zero i u a b x x' l h t =
    let e : u - i + i ≡ u = omega arith in
    omega (arith, away_square x i, away_square x u, away_square x' i, away_square x' u, crossed (u - i) i u x x' e h)
holds_on (suc zero) i u a b x x' l h t = omega (arith, away_min x i, away_min x u, away_min x' i, away_min x' u)
holds_on (suc (suc k)) i u a b x x' l h t =
    by_cases
    (dec_le (away x i) (away x u))
    (λ n. omega (arith, nearer i u x x' l h n))
    (λ f. omega (arith, bounded i u x x' l h))

-- the kinds that have parts are lawful measures
pub lawful : (kind : ℕ) → HasParts kind → Lawful (measure kind)
lawful zero _ = record { rises = λ dy dy' h. mul-le-mul h h; keeps = omega arith; stands = omega arith; stretch = holds_on 0 }
lawful (suc zero) _ = record { rises = omega arith; keeps = omega arith; stands = omega arith; stretch = holds_on 1 }
lawful (suc (suc k)) _ = record { rises = omega arith; keeps = omega arith; stands = omega arith; stretch = holds_on 2 }

-- the kinds of costs have parts
pub cost_parts : {kind : ℕ} → kind ≤ cost_kind_limit → HasParts kind
cost_parts l = record { kind_in = omega arith; no_chamfer = omega arith }

-- in them what is added to a column's value is added to the whole
pub additive : (kind : ℕ) → kind ≤ cost_kind_limit → Additive (measure kind)
additive zero _ = omega arith
additive (suc zero) _ = omega arith
additive (suc (suc k)) h = omega arith

-- "With a bore present, W + H may stand for an empty column's G": wherever the empty column is, it combines to more than
-- a bore does, which is less than W columns and less than H rows away
pub stand_in : (kind w h dx dx' dy : ℕ)
    → HasParts kind
    → dx' < w
    → dy < h
    → (measure kind).combine dx' ((measure kind).lift dy) < (measure kind).combine dx ((measure kind).lift (w + h))
stand_in zero w h dx dx' dy l a b =
    let near : suc (dx' + dy) ≤ w + h = omega arith in
    omega (arith, mul-le-mul near near)
stand_in (suc zero) w h dx dx' dy l a b = omega arith
stand_in (suc (suc k)) w h dx dx' dy l a b = omega arith
