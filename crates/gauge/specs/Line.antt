-- A line, its curves, and which column wins at a place. A column i of the line has a curve: its height at the place x is
-- what the measure makes of |x − i| and the column's value. At each place the lowest curve wins, the least column on a tie;
-- `envelope` finds the winners. Assumes nothing.
use Rattle.std.specs.Prelude.{◌≡◌, List, ℕ, ◌≤◌, ◌<◌, get_or, length}
use Rattle.rules.specs.Limits.{side_limit, line_limit}
use Rattle.rules.specs.Board.{away}
use Rattle.rules.specs.Measures.{Measure, measure}
use Rattle.rules.specs.Answers.{kind_number}
use Rattle.rules.specs.declared.kind.LineKind.{LineKind}

-- the measure of a kind that has parts
abbrev pub measured : LineKind → Measure
measured kind = measure (kind_number kind)

-- the height of column i at the place x
unfoldable pub height_at : LineKind → List ℕ → ℕ → ℕ → ℕ
height_at kind values i x = (measured kind).combine (away x i) (get_or values i 0)

-- a line that the engine takes: from 1 to the side limit many values, none above the line limit
pub record Line (values : List ℕ) : Type 0 where
  pub from : 1 ≤ length values
  pub to : length values ≤ side_limit
  pub values_to : (i : ℕ) → i < length values → get_or values i 0 ≤ line_limit

-- of the columns below n, i has the lowest curve at x, and is the least column that has it
pub record Wins (height : ℕ → ℕ → ℕ) (n x i : ℕ) : Type 0 where
  pub column_in : i < n
  pub lowest : (i' : ℕ) → i' < n → height i x ≤ height i' x
  pub least_column : (i' : ℕ) → i' < n → height i' x ≡ height i x → i ≤ i'
