use Rattle.lane_search.proofs.Walking.{walk_goes}
use Rattle.lane_search.proofs.walk.walk.Goals as goal

pub loop-i-preserved : goal.loop-i-preserved
loop-i-preserved c =
    walk_goes c.loop-i.invariant (c.requires.descending.few c.args.from c.requires.inside) c.loop-i-test.true
    c.next-c.ensures
