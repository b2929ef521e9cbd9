-- What a cost picture puts on the lines of the engine: down its columns, and then along its rows. Assumes nothing.
use Rattle.std.specs.Prelude.{◌≡◌, ◌⊎◌, ◌≢◌, cond, List, ℕ, ◌<◌, eqb, length, get_or}
use Rattle.rules.specs.Limits.{side_limit, mark, line_limit}
use Rattle.rules.specs.Board.{cell, cost_at}
use Rattle.rules.specs.Columns.{cost_rank}

-- the value of a cell in its column: its cost, or the line limit for a marked cell
abbrev pub cell_value : ℕ → ℕ
cell_value cost = cond (eqb cost mark) line_limit cost

-- the values of the cells of column x
pub record Gathered (w x : ℕ) (costs values : List ℕ) : Type 0 where
  pub each : (j : ℕ) → j < length values → get_or values j 0 ≡ cell_value (cost_at w costs x j)

-- the word of a place in a column that row j wins: that row, or the mark where even this one stands at the line limit
abbrev pub winner_word : List ℕ → ℕ → ℕ
winner_word values j = cond (eqb (get_or values j 0) line_limit) mark j

-- the words of column x put from its winners, and no other cell's
pub record Scattered (w x : ℕ) (values winners before after : List ℕ) : Type 0 where
  pub each : (y : ℕ) → y < length values → get_or after (cell w x y) 0 ≡ winner_word values (get_or winners y 0)
  pub others : (i y : ℕ) → i < w → i ≢ x → get_or after (cell w i y) 0 ≡ get_or before (cell w i y) 0

-- a column word that can be believed: the mark, or a row whose cell in column i is on the board
abbrev pub Priced : ℕ → List ℕ → ℕ → ℕ → Type 0
Priced w costs i word = ((word < side_limit) × (cell w i word < length costs)) ⊎ (word ≡ mark)

-- the value of column i in row y: its word's rank, which is lift plus cost, or the line limit for a marked column
abbrev pub column_value : ℕ → ℕ → List ℕ → ℕ → ℕ → ℕ → ℕ
column_value kind w costs y i word = cond (eqb word mark) line_limit (cost_rank kind w costs y i word)

-- the values of the columns in row y
pub record Ranked (kind y : ℕ) (costs words values : List ℕ) : Type 0 where
  pub each : (i : ℕ) → i < length words → get_or values i 0 ≡ column_value kind (length words) costs y i (get_or words i 0)
