-- `lane_flood::flood` meets its contract: the labels are cleared, and if the far end is wide enough it begins the flow.
-- Assumes nothing.
use mathlib.Core.Path.{◌≡◌, ◌∙◌, subst}
use native.Mathlib.Omega.{arith}
use lib.ListN.{length, set}
use lib.Seq.{get_or-set_same}
use Rattle.lane_flood.specs.Labelling.{at, Labels}
use Rattle.lane_flood.proofs.Flowing.{none_labelled}
use Rattle.lane_flood.proofs.Touching.{begun}
use Rattle.lane_flood.proofs.flood.Goals as goal

pub returns-then-words-to : goal.returns-then-words-to
returns-then-words-to c =
    none_labelled c.if-words-to.true (λ k h. c.set_all.ensures k (omega (arith, c.requires.lists.labels_long)))

pub flow-requires-clause-begun : goal.flow-requires-clause-begun
flow-requires-clause-begun c =
    let p = c.requires in
    begun c.args.words.now c.set_all.new.words c.args.queue.now (c.set_all.auto.words ∙ p.lists.labels_long)
    p.lists.queue_long p.inside c.if-words-to.false (λ k h. c.set_all.ensures k (omega (arith, c.set_all.auto.words)))

pub returns : goal.returns
returns c =
    let a = c.args in
    let p = c.requires in
    let first : at (set a.queue.now 0 a.to) 0 ≡ a.to =
    get_or-set_same a.queue.now 0 a.to 0 (omega (arith, p.lists.queue_long, p.inside)) in
    subst (λ q. Labels a.w (length a.words.now) (at a.words.now) a.v q (at c.flow.new.labels)) first
    c.flow.ensures
