-- What a cell takes from its neighbours: the words of a board, the neighbours that the rules' table names, and the
-- least of what they offer. Assumes nothing.
use Rattle.std.specs.Prelude.{◌≡◌, ◌⊎◌, List, ℕ, ◌+◌, ◌*◌, ◌≤◌, ◌<◌, Option, Some, IfSome, ℤ, pos, ◌+ℤ◌, length, get_or, set}
use Rattle.rules.specs.Board.{cell}
use Rattle.rules.specs.Table.{step, none, steps, weight, Leads}
use Rattle.rules.specs.declared.Choice.TheVariants.{D1}
use Rattle.rules.specs.declared.Step.{Step}
use Rattle.rules.specs.declared.sized.Board.{Board}
use Rattle.chamfer_turn.specs.declared.weighted.Chamfer.{Chamfer}

-- a board and two weights, of any size
pub record Weighed : Type 0 where
  pub board : Board
  pub d1 : ℕ
  pub d2 : ℕ

-- those of the program's board of kind 3, whose type says besides that the weights are good
abbrev pub weighed : Chamfer → Weighed
weighed chamfer = record { board = chamfer.board; d1 = chamfer.d1; d2 = chamfer.d2 }

-- the word of a cell that no bore has reached: above every true word, with room for a weight
abbrev pub far : ℕ
far = 1_073_741_824

-- one word for each cell, and none above `far`
pub record Words (b : Weighed) (words : List ℕ) : Type 0 where
  pub one_each : length words ≡ b.board.w * b.board.h
  pub most : (c : ℕ) → get_or words c 0 ≤ far

-- the word of the cell (x, y)
abbrev pub word : Weighed → List ℕ → ℕ → ℕ → ℕ
word b words x y = get_or words (cell b.board.w x y) 0

-- the cell (x, y) is on the board
pub record On (b : Weighed) (x y : ℕ) : Type 0 where
  pub column_in : x < b.board.w
  pub row_in : y < b.board.h

-- step k of the rules' table
abbrev pub printed : ℕ → Step
printed k = get_or steps k (step none none D1)

-- where a step leads from `at` in one direction: to a number below `size`, or to none
pub record Moved (at : ℕ) (by : ℤ) (size : ℕ) (r : Option ℕ) : Type 0 where
  pub leads : IfSome r (λ n. (n < size) × (pos n ≡ pos at +ℤ by))
  pub only : (n : ℕ) → n < size → pos n ≡ pos at +ℤ by → r ≡ Some n

-- (x', y') is the neighbour of (x, y) by step k, and on the board
pub record Neighbour (b : Weighed) (k x y x' y' : ℕ) : Type 0 where
  pub leads : Leads (printed k) x y x' y'
  pub on_board : On b x' y'

-- what that neighbour offers: its word and the weight of the step
abbrev pub offer : Weighed → List ℕ → ℕ → ℕ → ℕ → ℕ
offer b words k x' y' = word b words x' y' + weight b.d1 b.d2 (printed k).2

-- v is what some neighbour of (x, y) by one of the steps from .. to − 1 offers
pub record Offered (b : Weighed) (words : List ℕ) (x y from to v : ℕ) : Type 0 where
  pub k : ℕ
  pub x' : ℕ
  pub y' : ℕ
  pub step_from : from ≤ k
  pub step_to : k < to
  pub neighbour : Neighbour b k x y x' y'
  pub offer_is : v ≡ offer b words k x' y'

-- v is the lesser of `best` and of what the neighbour of (x, y) by step k offers, where there is one
pub record Lesser (b : Weighed) (words : List ℕ) (x y k best v : ℕ) : Type 0 where
  pub no_more : v ≤ best
  pub no_more_through : (x' y' : ℕ) → Neighbour b k x y x' y' → v ≤ offer b words k x' y'
  pub made : (v ≡ best) ⊎ Offered b words x y k (k + 1) v

-- v is the least of `own` and of what the neighbours of (x, y) by the steps from .. to − 1 offer
pub record Lowest (b : Weighed) (words : List ℕ) (x y from to own v : ℕ) : Type 0 where
  pub no_more : v ≤ own
  pub no_more_through : (k x' y' : ℕ) → from ≤ k → k < to → Neighbour b k x y x' y' → v ≤ offer b words k x' y'
  pub made : (v ≡ own) ⊎ Offered b words x y from to v

-- the cell (x, y) has had its turn with those steps: it has the least of its own word and of what those neighbours offer,
-- and every other cell what it had
pub record CellTurned (b : Weighed) (x y from to : ℕ) (before after : List ℕ) : Type 0 where
  pub v : ℕ
  pub lowest : Lowest b before x y from to (word b before x y) v
  pub stored : after ≡ set before (cell b.board.w x y) v
