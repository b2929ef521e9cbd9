-- `squares::list_of_squares` meets its contract: its list passes the test, which the checker computes over all of it. The
-- proof names no entry and no length, and does not grow with the list. Assumes nothing.
use mathlib.Core.Path.{refl}
use Rattle.squares.proofs.Table.{tested}
use Rattle.squares.proofs.list_of_squares.Goals as goal

pub returns : goal.returns
returns c = tested _ refl tt
