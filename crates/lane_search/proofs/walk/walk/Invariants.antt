-- `lane_search::walk::walk` meets its contract. The loop's invariant: the cells before i are written and walk down the
-- labels. Assumes nothing.
use lib.ListN.{length}
use Rattle.lane_flood.specs.Labelling.{at}
use Rattle.lane_search.proofs.Walking.{Walking}
use Rattle.lane_search.proofs.walk.walk.Given as goal

abbrev pub invariant-loop-i : goal.invariant-loop-i
invariant-loop-i l = Walking l.w (length l.labels) (at l.labels) l.from l.cells l.path l.c l.i
