-- What filling the clear map leaves. Assumes nothing.
use Rattle.std.specs.Prelude.{◌≡◌, ℕ, ◌<◌, List, length, slice_index}
use Rattle.rules.specs.Knob.{clear_byte}

-- every byte says whether its squared distance is clear
abbrev pub Cleared : ℕ → ℕ → List ℕ → List ℕ → Type 0
Cleared a b squares clear = (k : ℕ) → k < length squares → slice_index clear k ≡ clear_byte a b (slice_index squares k)
