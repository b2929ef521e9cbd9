-- `costs::accepted_map` meets its contract: the rows are made in the fronts of the distances and the sites, and the front
-- of the scratch is set to zero, so that beyond them each list is as it was. Assumes nothing.
use mathlib.Core.Path.{◌∙◌, subst}
use Prim.Native.Nat.{◌≤◌}
use native.Mathlib.Omega.{arith}
use lib.ListN.{length}
use lib.Seq.{length-take-le}
use Rattle.rules.specs.Calls.{Beyond}
use Rattle.rules.proofs.Parts.{front_beyond, beyond_both}
use Rattle.costs.proofs.Entry.{map_after}
use Rattle.costs.proofs.accepted_map.Goals as goal

pub returns : goal.returns
returns c =
    let l = c.requires.lent in
    let scratch = c.args.scratch.now in
    let enough : c.scratch_words-all.result ≤ length scratch = omega (arith, c.scratch_words-all.ensures, l.scratch_from) in
    let m = c.columns_and_rows in
    let used = front_beyond scratch m.new.scratch enough (m.auto.scratch ∙ length-take-le _ _ enough) in
    let z = c.set_front.ensures in
    rw c.cells-n.ensures
    (map_after m.new.distances m.new.sites c.requires
    (rw c.cells-n.ensures at m.auto.distances ∙ length-take-le _ _ l.distances_from)
    (rw c.cells-n.ensures at m.auto.sites ∙ length-take-le _ _ l.sites_from)
    m.ensures (λ k h. z.front k (omega (arith, c.scratch_words-all.ensures)))
    (subst (λ n. Beyond n scratch c.set_front.new.words) c.scratch_words-all.ensures (beyond_both used z.beyond)))
