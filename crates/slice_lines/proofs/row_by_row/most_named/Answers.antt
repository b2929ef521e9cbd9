-- `slice_lines::row_by_row::most_named` meets its contract: it folds what the row's words ask for. Assumes nothing.
use Rattle.std.proofs.Common.{rules}
use Rattle.slice_lines.proofs.Testing.{most_named}
use Rattle.slice_lines.proofs.row_by_row.most_named.Goals as goal

pub returns : goal.returns
returns c = most_named c.requires (search rules)
