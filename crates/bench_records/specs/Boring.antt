-- What boring leaves: the picture, and how many cells of it are bored that were not before. A cell that is bored twice
-- is counted once, since the count is the difference of the bored cells. Assumes nothing.
use Rattle.std.specs.Prelude.{◌≡◌, List, ℕ, ◌+◌, set}
use Rattle.rules.specs.BenchFile.{bore_all, bores}

-- one cell bored
pub record BoredCell (cell : ℕ) (before after : List ℕ) (fresh : ℕ) : Type 0 where
  pub picture_is : after ≡ set before cell 1
  pub counted : fresh + bores before ≡ bores after

-- the cell of every record of the bytes bored
pub record BoredBy (bytes before after : List ℕ) (fresh : ℕ) : Type 0 where
  pub picture_is : after ≡ bore_all bytes before
  pub counted : fresh + bores before ≡ bores after
