-- How much of a root is known: it is n or more, and below n + width, which is not above 2^32. Assumes nothing.
use Rattle.std.specs.Prelude.{ℕ, ◌+◌, ◌*◌, ◌^◌, ◌≤◌, ◌<◌}

pub record Between (x n width : ℕ) : Type 0 where
  pub from : n * n ≤ x
  pub to : x < (n + width) * (n + width)
  pub small : n + width ≤ 2 ^ 32
