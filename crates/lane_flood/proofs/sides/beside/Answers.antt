-- `lane_flood::sides::beside` meets its contract, side by side. Assumes nothing.
use native.Mathlib.Omega.{arith}
use Rattle.lane_flood.proofs.Around.{above, none_above, to_left, none_left, to_right, none_right, below, none_below}
use Rattle.lane_flood.proofs.sides.beside.Goals as goal

pub returns-in-Above : goal.returns-in-Above
returns-in-Above c = rw c.in-Above.is (above c.requires.rows c.requires.inside (omega arith))

pub returns-in_default : goal.returns-in_default
returns-in_default c = rw c.in-Above.is (none_above c.requires.rows c.requires.inside (omega arith))

pub returns-in-Left : goal.returns-in-Left
returns-in-Left c = rw c.in-Left.is (to_left c.requires.rows c.requires.inside (omega arith))

pub returns-in_default-2 : goal.returns-in_default-2
returns-in_default-2 c = rw c.in-Left.is (none_left c.requires.rows c.requires.inside (omega arith))

pub returns-in-Right : goal.returns-in-Right
returns-in-Right c = rw c.in-Right.is (to_right c.requires.rows c.requires.inside (omega arith))

pub returns-in_default-3 : goal.returns-in_default-3
returns-in_default-3 c = rw c.in-Right.is (none_right c.requires.rows c.requires.inside (omega arith))

pub returns-in-Below : goal.returns-in-Below
returns-in-Below c = rw c.in-Below.is (below c.requires.rows c.requires.inside (omega arith))

pub returns-in_default-4 : goal.returns-in_default-4
returns-in_default-4 c = rw c.in-Below.is (none_below c.requires.rows c.requires.inside (omega arith))
