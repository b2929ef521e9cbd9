-- `millimetres::centre_figure` meets its contract: a bad pitch is refused, and for a good one the root is told.
-- Assumes nothing.
use Rattle.millimetres.proofs.Telling.{figure_told}
use Rattle.millimetres.proofs.centre_figure.Goals as goal

pub returns : goal.returns
returns c = figure_told c.in_ok-centre_root.ensures.root c.figure.ensures
