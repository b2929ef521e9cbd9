-- `root::root` meets its contract. The loop's invariant: the root is enclosed in an interval whose width is 2^bit, 2^32 at
-- first. One digit, half of the width, tells in which half the root lies: in the upper one exactly if the square of its
-- beginning is not above x. When the width is 1, the interval's beginning is the root. Assumes nothing.
use Rattle.std.proofs.Common.{◌^◌}
use Rattle.root.specs.Between.{Between}
use Rattle.root.proofs.root.Given as goal

abbrev pub invariant-loop-bit : goal.invariant-loop-bit
invariant-loop-bit l = Between l.x l.found (2 ^ l.bit)
