-- `gauge::Gauge::last` meets its contract, kind by kind; that i holds the first place is what each kind's function asks.
-- Assumes nothing.
use native.Mathlib.Nat.{mul-le-mul, le-pred_of_lt, div-le_self}
use Prim.Native.Nat.{pred, ◌+◌, ◌-◌, ◌*◌, ◌≤◌, ◌<◌}
use native.Mathlib.Omega.{arith}
use Rattle.rules.specs.Limits.{side_limit}
use Rattle.gauge.proofs.Places.{first_away, euclid_last}
use Rattle.gauge.proofs.Gauge.last.Goals.{In-Euclid}
use Rattle.gauge.proofs.Gauge.last.Goals as goal

-- the left column holds the first place
first : (c : In-Euclid) → let p = c.args.p in p.i * p.i + p.a ≤ p.u * p.u + p.b
first c = simp first_away at (rw c.in-Euclid.is at c.requires)

pub last_euclid-requires : goal.last_euclid-requires
last_euclid-requires c =
    let p = c.args.p in
    let g = p.given in
    (c.args.self.now.listed, g.apart, omega (arith, g.column_in, g.line_to), g.left_to, g.right_to, first (goal.at.last_euclid-requires c).In-Euclid)

pub returns-in-Euclid-clause-small : goal.returns-in-Euclid-clause-small
returns-in-Euclid-clause-small c =
    let p = c.args.p in
    let below : p.u < side_limit = omega (arith, p.given.column_in, p.given.line_to) in
    let small : p.u * p.u ≤ pred side_limit * pred side_limit = mul-le-mul (le-pred_of_lt below) (le-pred_of_lt below) in
    omega (arith, p.given.right_to, c.last_euclid.ensures, div-le_self (p.u * p.u + p.b - (p.i * p.i + p.a)) (2 * (p.u - p.i)))

pub returns-in-Euclid-clause-last : goal.returns-in-Euclid-clause-last
returns-in-Euclid-clause-last c =
    let p = c.args.p in
    rw (c.in-Euclid.is, c.last_euclid.ensures) (euclid_last p.n p.i p.u p.a p.b p.given.apart (first (goal.at.returns-in-Euclid-clause-last c).In-Euclid))
