-- `chamfer::scan_map` meets its contract: the words that are lent are those of the cells. Assumes nothing.
use mathlib.Core.List.{List, ◌++◌}
use Prim.Native.Nat.{ℕ, ◌*◌, ◌≤◌}
use lib.ListN.{length, take, drop}
use native.Mathlib.Omega.{arith}
use Rattle.std.proofs.lemmas.Grind.{common_steps}
use Rattle.rules.proofs.Board.{cell_in}
use Rattle.chamfer.specs.Scans.{Scanned}
use Rattle.chamfer.proofs.scan_map.Goals as goal

-- the map in the words of the cells is the map in a list that begins with them
in_front : {w h d1 d2 : ℕ} {picture after : List ℕ} (before : List ℕ)
    → w * h ≤ length before
    → Scanned w h d1 d2 picture (take (w * h) before) after
    → Scanned w h d1 d2 picture before (after ++ drop (w * h) before)
in_front before l S =
    record {
      words = λ x y x_in y_in. grind (arith, common_steps, cell_in x_in y_in, S.as_long, S.words x y x_in y_in);
      as_long = grind (arith, common_steps, S.as_long);
      untouched = grind (arith, common_steps, S.as_long);
    }

pub returns : goal.returns
returns c = rw c.cells-n.ensures (in_front _ c.requires.distances_from (rw c.cells-n.ensures at c.map_words.ensures))
