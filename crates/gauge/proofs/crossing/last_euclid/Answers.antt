-- `gauge::crossing::last_euclid` meets its contract: what is read are the squares, and nothing wraps. Assumes nothing.
use mathlib.Core.Path.{ap₂}
use Prim.Native.Nat.{◌/◌}
use native.Mathlib.Omega.{arith}
use Rattle.squares.proofs.Table.{Square, squared}
use Rattle.gauge.proofs.crossing.last_euclid.Goals.{After-square, After-square-2}
use Rattle.gauge.proofs.crossing.last_euclid.Goals as goal

-- what is read from the list are the squares of the columns
right : (c : After-square) → Square c.args.u c.square.result
right c = squared c.requires.0 c.requires.2 c.square.ensures

left : (c : After-square-2) → Square c.args.i c.square-2.result
left c = let p = c.requires in squared p.0 (omega (arith, p.1, p.2)) c.square-2.ensures

pub overflow_add-top : goal.overflow_add-top
overflow_add-top c = omega (arith, right c, c.requires.4)

pub overflow_add-top-2 : goal.overflow_add-top-2
overflow_add-top-2 c = omega (arith, left c, c.requires.3)

pub overflow_sub-top : goal.overflow_sub-top
overflow_sub-top c = omega (arith, left c, right (goal.at.overflow_sub-top c).After-square, c.requires.5)

pub returns : goal.returns
returns c = ap₂ ◌/◌ (omega (arith, (left c).0, (right (goal.at.returns c).After-square).0)) (omega arith)
