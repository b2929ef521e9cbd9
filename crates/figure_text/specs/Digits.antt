-- What putting digits promises. Assumes nothing.
use Rattle.std.specs.Prelude.{◌≡◌, List, ℕ, ◌+◌, drop}
use Rattle.rules.specs.Millimetres.{last_digits}

-- the last digits of a number stand from a place on, and behind them what stood there; of the bytes in front nothing is
-- said
abbrev pub Placed : ℕ → ℕ → ℕ → List ℕ → List ℕ → Type 0
Placed begin count number before after = drop begin after ≡ last_digits count number (drop (begin + count) before)
