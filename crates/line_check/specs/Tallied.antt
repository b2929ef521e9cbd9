-- What a tally of lines can say. Assumes nothing.
use Rattle.std.specs.Prelude.{ℕ, ◌*◌, ◌≤◌}
use Rattle.rules.specs.Limits.{side_limit}

-- no line has more places than the side, and no more places are wrong than there are
pub record Tallied (lines places wrong : ℕ) : Type 0 where
  pub places_to : places ≤ lines * side_limit
  pub wrong_to : wrong ≤ places
