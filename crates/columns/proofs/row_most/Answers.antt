-- `columns::row_most` meets its contract: it folds the bytes of the band's columns in the row. Assumes nothing.
use native.Mathlib.Omega.{arith}
use Rattle.std.proofs.Common.{rules}
use Rattle.columns.proofs.Testing.{most_is}
use Rattle.columns.proofs.row_most.Goals as goal

pub returns : goal.returns
returns c = most_is (omega arith) (search rules)
