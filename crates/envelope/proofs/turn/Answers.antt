-- `envelope::turn` meets its contract: what is kept, where u begins, and the two stores. Assumes nothing.
use native.Mathlib.Omega.{arith}
use lib.ListN.{length-set}
use Rattle.envelope.proofs.Turns.{against}
use Rattle.envelope.proofs.Stores.{initial, turn_past, turn_begun}
use Rattle.envelope.proofs.turn.Goals as goal

pub begin-start-requires : goal.begin-start-requires
begin-start-requires c =
    let p = c.requires in
    let k = c.keep-kept.ensures in
    (p.0, p.1, omega (arith, k.most, p.2.few), against _ p.2 (initial _ _ _) k)

pub returns-then-n-start : goal.returns-then-n-start
returns-then-n-start c = turn_past c.args.work.now c.keep-kept.ensures c.begin-start.ensures c.if-n-start.true

pub bounds-work-n : goal.bounds-work-n
bounds-work-n c =
    let p = c.requires in
    simp length-set (omega (arith, p.0.room, p.2.few, c.keep-kept.ensures.most))

pub returns : goal.returns
returns c =
    let k = c.keep-kept.ensures in
    turn_begun c.args.work.now k c.begin-start.ensures c.requires.0.room
    (omega (arith, k.most, c.requires.2.few)) c.if-n-start.false
