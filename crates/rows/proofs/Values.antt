-- What stands at a column's place in the line of values, by its word. Assumes nothing.
use Rattle.std.proofs.Common.{◌≡◌, ℕ}
use borrow.Author.Tests.{eq-eqb}
use Rattle.rules.specs.Limits.{mark, line_limit}
use Rattle.rules.specs.declared.kind.LineKind.{LineKind}
use Rattle.rows.specs.Row.{value_of}

-- for a marked column the line limit
pub marked_value : (kind : LineKind) (y word : ℕ) → word ≡ mark → line_limit ≡ value_of kind y word
marked_value kind y word e = rw (eq-eqb word mark e)
