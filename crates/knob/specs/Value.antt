-- What opening one value answers, said of the value's IEEE 754 word. Assumes nothing.
use Rattle.std.specs.Prelude.{ℕ, Option, Some, None}
use Rattle.rules.specs.Knob.{Good}

-- the whole number k is answered only for the good value for k, and none only where the word is good for no k; a word is
-- good for one k at most, so each "only" is an "exactly"
abbrev pub Opens : ℕ → Option ℕ → Type 0
Opens word (Some k) = Good word k
Opens word None = (k : ℕ) → Good word k → ⊥
