-- Laws of the board: cell numbers and differences. A cell number has its row and its column for digits to the base w,
-- so it names one cell, and each number below w·h names a cell of the board. The difference of two columns (or of two
-- rows) is used through sums: added to the lesser it gives the greater. As seen from x, two columns i < u then lie in
-- one of three ways, and each way is an equation for i and one for u. Assumes nothing.
use mathlib.Core.Path.{◌≡◌}
use mathlib.Core.Logic.{by_cases}
use Prim.Native.Nat.{ℕ, zero, suc, ◌+◌, ◌*◌, ◌≤◌, ◌<◌, min}
use native.Mathlib.Nat.{mul_comm, mul-le-mul, mul-le-mul_right, zero-lt-suc, mod-lt, div-add-mod', div-lt_iff_lt-mul}
use native.Mathlib.Decide.{dec_le, dec_lt}
use native.Mathlib.Omega.{arith}
use lib.Arith.{digits_lt, digits_div, digits_mod}
use Rattle.rules.specs.Limits.{side_limit}
use Rattle.rules.specs.Board.{Sides, cell, column, row, away}

-- a cell of the board has a number below w·h
pub cell_in : {w h x y : ℕ} → x < w → y < h → cell w x y < w * h
cell_in {w} {h} l m = rw (mul_comm w h) (digits_lt m l)

-- a board has few cells
pub cells_few : {w h : ℕ} → Sides w h → w * h ≤ side_limit * side_limit
cells_few s = mul-le-mul s.width_to s.height_to

-- a row of the board, known by its first cell, ends on it
pub row_ends : (w : ℕ) {h y start : ℕ} → start ≡ y * w → y < h → start + w ≤ w * h
row_ends w {h} is l = omega (arith, mul-le-mul_right w l, mul_comm w h)

-- the column of a cell's number is the cell's column
pub column_of : {w x : ℕ} (y : ℕ) → x < w → column w (cell w x y) ≡ x
column_of y l = digits_mod y l

-- the row of a cell's number is the cell's row
pub row_of : {w x : ℕ} (y : ℕ) → x < w → row w (cell w x y) ≡ y
row_of y l = digits_div y l

-- a number is that of the cell in its column and row
pub cell_of : (w c : ℕ) → cell w (column w c) (row w c) ≡ c
cell_of w c = div-add-mod' c w

-- each number has a column of the board
pub column_below : {w : ℕ} (c : ℕ) → 0 < w → column w c < w
column_below c p = mod-lt c p

-- a number below w·h has a row of the board
pub row_below : (w : ℕ) {h c : ℕ} → c < w * h → row w c < h
row_below zero l = absurd (omega arith)
row_below (suc w) {h} l = (div-lt_iff_lt-mul (zero-lt-suc w)).1 (rw (mul_comm (suc w) h) at l)

-- one number is the number of one cell
pub cell_inj : {w x x' : ℕ} (y y' : ℕ) → x < w → x' < w → cell w x y ≡ cell w x' y' → (x ≡ x') × (y ≡ y')
cell_inj y y' l l' e = (cc (column_of y l, column_of y' l'), cc (row_of y l, row_of y' l'))

-- a number is not away from itself
pub away_self : (a : ℕ) → away a a ≡ 0
unfolding away
away_self a = omega arith

-- the difference is the same from both ends
pub away_sym : (a b : ℕ) → away a b ≡ away b a
unfolding away
away_sym a b = omega arith

-- added to the lesser, the difference gives the greater
pub away_up : {a b : ℕ} → a ≤ b → away a b + a ≡ b
unfolding away
away_up l = omega arith

-- the difference and twice the lesser make the sum
pub away_min : (a b : ℕ) → away a b + 2 * min a b ≡ a + b
unfolding away
away_min a b = omega arith

-- numbers with no difference are equal
pub away_zero : (a b : ℕ) → away a b ≡ 0 → a ≡ b
unfolding away
away_zero a b e = omega arith

-- x stands at i or to its left, and so to the left of u
pub record Left (x i u : ℕ) : Type 0 where
  pub until : x ≤ i
  pub to_i : away x i + x ≡ i
  pub to_u : away x u + x ≡ u

-- x stands to the right of i and to the left of u
pub record Between (x i u : ℕ) : Type 0 where
  pub after : i < x
  pub before : x < u
  pub to_i : away x i + i ≡ x
  pub to_u : away x u + x ≡ u

-- x stands at u or to its right, and so to the right of i
pub record Right (x i u : ℕ) : Type 0 where
  pub from : u ≤ x
  pub to_i : away x i + i ≡ x
  pub to_u : away x u + u ≡ x

-- the three ways in which x lies
pub data Lies (x i u : ℕ) : Type 0 where
  left : Left x i u → Lies x i u
  between : Between x i u → Lies x i u
  right : Right x i u → Lies x i u

-- seen from x, the columns i < u lie in one of the three ways
pub lies : {i u : ℕ} (x : ℕ) → i < u → Lies x i u
unfolding away
lies {i} {u} x l = go (dec_le x i) (dec_lt x u)
  where
    go : Dec (x ≤ i) → Dec (x < u) → Lies x i u
    go (yes a) c = left (omega arith)
    go (no b) (yes c) = between (omega arith)
    go (no b) (no c) = right (omega arith)

-- if d is added to x to make i, the square of d and twice the product of x and i make the two squares
square : (d x i : ℕ) → d + x ≡ i → d * d + 2 * (x * i) ≡ x * x + i * i
square d x i e = rw (← e) (omega arith)

-- the square of a difference, said without subtraction
pub away_square : (x i : ℕ) → away x i * away x i + 2 * (x * i) ≡ x * x + i * i
away_square x i =
    by_cases (dec_le x i)
    (λ (l : x ≤ i). square (away x i) x i (away_up l))
    (λ (n : ¬ (x ≤ i)). rw (away_sym x i) (omega (arith, square (away i x) i x (away_up (omega arith)))))
