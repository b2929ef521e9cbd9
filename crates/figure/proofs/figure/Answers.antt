-- `figure::figure` meets its contract: a u32 is below 2^53, and the constant is 1/256. Assumes nothing.
use mathlib.Core.Path.{refl}
use native.Mathlib.Omega.{arith}
use lib.Ieee.{binary64, of_bits}
use Rattle.figure.proofs.Scaling.{scaled}
use Rattle.figure.proofs.figure.Goals as goal

pub returns : goal.returns
unfolding of_bits
returns c =
    rw c.from.ensures (scaled c.args.n (of_bits binary64 0x3f70_0000_0000_0000) (omega (arith, c.ranges.n)) (refl, refl))
