-- What the list of squares is: as many entries as a side has cells at most, and entry k is k times k. Assumes nothing.
use Rattle.std.specs.Prelude.{◌≡◌, List, ℕ, ◌*◌, ◌<◌, length, get_or}
use Rattle.rules.specs.Limits.{side_limit}

pub record Squares (list : List ℕ) : Type 0 where
  pub as_long : length list ≡ side_limit
  pub entry : (k : ℕ) → k < side_limit → get_or list k 0 ≡ k * k
