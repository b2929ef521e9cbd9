-- `cost_lines::columns_and_rows` meets its contract: every column, then every row, of a picture that has passed the tests.
-- Assumes nothing.
use Rattle.cost_lines.proofs.Picture.{none_bad, some_unmarked}
use Rattle.cost_lines.proofs.columns_and_rows.Goals as goal

pub invariant_of-picture-clause-costs_in : goal.invariant_of-picture-clause-costs_in
invariant_of-picture-clause-costs_in c = none_bad c.requires.accepted

pub invariant_of-picture-clause-unmarked : goal.invariant_of-picture-clause-unmarked
invariant_of-picture-clause-unmarked c = some_unmarked c.requires.accepted
