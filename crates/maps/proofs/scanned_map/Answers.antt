-- `maps::scanned_map` meets its contract: the scans, the sites all marked, and the scratch set to zero. Assumes nothing.
use Rattle.maps.proofs.After.{scans_after}
use Rattle.maps.proofs.scanned_map.Goals as goal

pub scan_map-requires : goal.scan_map-requires
scan_map-requires c =
    let p = c.requires in
    record { picture_is = p.lent.picture_is; distances_from = p.lent.distances_from; bored = p.bored }

pub returns : goal.returns
returns c =
    let m = rw c.cells.ensures at c.set_front.ensures in
    let z = rw c.scratch_words.ensures at c.set_front-2.ensures in
    scans_after c.scan_map.ensures m.front m.beyond z.front z.beyond
