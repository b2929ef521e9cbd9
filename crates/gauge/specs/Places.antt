-- Two columns i < u of a line, and the place where i stops holding against u: i holds a place where its curve is at most
-- u's. Assumes nothing.
use Rattle.std.specs.Prelude.{ℕ, ◌+◌, ◌≤◌, ◌<◌}
use Rattle.rules.specs.Limits.{side_limit, line_limit}
use Rattle.rules.specs.Board.{away}
use Rattle.rules.specs.Measures.{Measure, HoldsAt}

-- for columns i < u: i holds every place below r, and not r itself, unless r is the end of the line
pub record Place (height : ℕ → ℕ → ℕ) (n i u r : ℕ) : Type 0 where
  pub on_line : r ≤ n
  pub holds : (x : ℕ) → x < r → height i x ≤ height u x
  pub stops : r < n → height u r < height i r

-- two columns i < u of a line of n places, and the values that they hold
pub record IsPair (n i u a b : ℕ) : Type 0 where
  pub apart : i < u
  pub column_in : u < n
  pub line_to : n ≤ side_limit
  pub left_to : a ≤ line_limit
  pub right_to : b ≤ line_limit

-- 002's Sep, for columns i < u that hold the values a and b: on a line of n places i holds up to p, and not at the next
pub record Last (m : Measure) (n i u a b p : ℕ) : Type 0 where
  pub holds : (x : ℕ) → x ≤ p → x < n → HoldsAt m i u a b x
  pub stops : p + 1 < n → m.combine (away (p + 1) u) b < m.combine (away (p + 1) i) a
