-- "The scans use the four offsets of the forward scan and the four of the backward scan, as 003 prints them: each
-- neighbour with its row step, column step and choice of weight." Assumes nothing.
use Rattle.std.specs.Prelude.{◌≡◌, List, [], ◌∷◌, ◌++◌, ℕ, ℤ, pos, negsuc, ◌+ℤ◌}
use Rattle.rules.specs.declared.Choice.{Choice}
use Rattle.rules.specs.declared.Choice.TheVariants.{D1, D2}
use Rattle.rules.specs.declared.Step.{Step}

-- one neighbour: the row step, the column step, and the choice of weight
abbrev pub step : ℤ → ℤ → Choice → Step
step rows columns choice = record { 0 = rows; 1 = columns; 2 = choice }

-- one row or column back, none, one on
abbrev pub back : ℤ
back = negsuc 0

abbrev pub none : ℤ
none = pos 0

abbrev pub on : ℤ
on = pos 1

-- the forward scan: b(i−1,j−1)+d2, b(i−1,j)+d1, b(i−1,j+1)+d2, b(i,j−1)+d1
abbrev pub forward : List Step
forward = step back back D2 ∷ step back none D1 ∷ step back on D2 ∷ step none back D1 ∷ []

-- the backward scan: b(i,j+1)+d1, b(i+1,j−1)+d2, b(i+1,j)+d1, b(i+1,j+1)+d2
abbrev pub backward : List Step
backward = step none on D1 ∷ step on back D2 ∷ step on none D1 ∷ step on on D2 ∷ []

-- the eight, in that order
abbrev pub steps : List Step
steps = forward ++ backward

-- the weight that a choice names
abbrev pub weight : ℕ → ℕ → Choice → ℕ
weight d1 d2 D1 = d1
weight d1 d2 D2 = d2

-- the step s leads from the cell (x, y) to the cell (x', y')
pub record Leads (s : Step) (x y x' y' : ℕ) : Type 0 where
  pub across : pos x' ≡ pos x +ℤ s.1
  pub down : pos y' ≡ pos y +ℤ s.0
