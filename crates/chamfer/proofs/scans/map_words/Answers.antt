-- `chamfer::scans::map_words` meets its contract: the words are bounded before the scans, and each scan brings more.
-- Assumes nothing.
use mathlib.Core.Path.{◌∙◌}
use native.Mathlib.Omega.{arith}
use Rattle.chamfer_turn.specs.Neighbours.{weighed}
use Rattle.chamfer.proofs.Order.{forward_scan, backward_scan}
use Rattle.chamfer.proofs.Beginning.{begun}
use Rattle.chamfer.proofs.Bringing.{brought}
use Rattle.chamfer.proofs.Ending.{mapped}
use Rattle.chamfer.proofs.scans.map_words.Goals as goal

pub returns : goal.returns
returns c =
    let weights = c.args.chamfer.weights in
    let first = begun {b = weighed c.args.chamfer} c.begin.ensures (c.begin.auto.words ∙ c.requires.words_are) weights c.requires.bored in
    let second = brought forward_scan (omega arith) weights c.forward.ensures first in
    let last = c.backward.ensures in
    mapped (brought backward_scan (omega arith) weights last second) last.words.one_each c.requires.words_are
