-- `maps::row_map` meets its contract: sweeps, row lines, and the scratch set to zero. Assumes nothing.
use native.Mathlib.Omega.{arith}
use Rattle.maps.proofs.After.{believable, rows_after}
use Rattle.maps.proofs.row_map.Goals as goal

pub all_rows-requires : goal.all_rows-requires
all_rows-requires c =
    let a = c.requires in
    (a.lent.distances_from, a.lent.sites_from, omega (arith, a.lent.scratch_from, c.sweep.auto.words), believable a c.sweep.ensures)

pub returns : goal.returns
returns c =
    let z = rw c.scratch_words.ensures at c.set_front.ensures in
    rows_after c.sweep.ensures c.all_rows.ensures z.front z.beyond
