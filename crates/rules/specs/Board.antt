-- "What the board is": sides, cell numbers, pictures and cost pictures. A picture is a list of numbers, one a cell
-- in the order of the cell numbers. Assumes nothing.
use Rattle.std.specs.Prelude.{◌≡◌, ◌≢◌, List, ℕ, ◌+◌, ◌-◌, ◌*◌, ◌/◌, ◌%◌, ◌≤◌, get_or}
use Rattle.rules.specs.Limits.{side_limit, mark}

-- "Width W and height H are each 1 to" the side limit
pub record Sides (w h : ℕ) : Type 0 where
  pub width_from : 1 ≤ w
  pub width_to : w ≤ side_limit
  pub height_from : 1 ≤ h
  pub height_to : h ≤ side_limit

-- "Cell (x, y), x to the right and y downward, has number y·W + x."
abbrev pub cell : ℕ → ℕ → ℕ → ℕ
cell w x y = y * w + x

-- the column and the row of the cell with the number c
abbrev pub column : ℕ → ℕ → ℕ
column w c = c % w

abbrev pub row : ℕ → ℕ → ℕ
row w c = c / w

-- "With dx, dy the absolute differences of columns and rows": one of the two differences is 0
unfoldable pub away : ℕ → ℕ → ℕ
away a b = (a - b) + (b - a)

-- "A picture is W·H bytes, 1 bored and 0 sound.": the cell in column i and row j is bored
abbrev pub Bored : ℕ → List ℕ → ℕ → ℕ → Type 0
Bored w picture i j = get_or picture (cell w i j) 0 ≡ 1

-- "A cost picture is W·H u32 words: a cost of 0 to 1,000,000, or the mark 4,294,967,295, meaning no feature."
abbrev pub cost_at : ℕ → List ℕ → ℕ → ℕ → ℕ
cost_at w costs i j = get_or costs (cell w i j) mark

abbrev pub Unmarked : ℕ → List ℕ → ℕ → ℕ → Type 0
Unmarked w costs i j = cost_at w costs i j ≢ mark
