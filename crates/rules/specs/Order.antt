-- Lists of numbers compared number by number. The tie rule and the order of lanes both come down to it.
-- Assumes nothing.
use Rattle.std.specs.Prelude.{◌≡◌, ◌⊎◌, List, [], ◌∷◌, ℕ, ◌<◌}

-- the first list comes before the second: at the first place where they differ it has the lesser number. It is
-- asked of lists of one length only; where one ends first, neither comes before the other.
abbrev pub Earlier : List ℕ → List ℕ → Type 0
Earlier [] ys = ⊥
Earlier (x ∷ xs) [] = ⊥
Earlier (x ∷ xs) (y ∷ ys) = (x < y) ⊎ ((x ≡ y) × Earlier xs ys)
