use mathlib.Core.Path.{◌≡◌, ◌∙◌, sym, subst}
use native.Mathlib.Nat.{add-zero}
use native.Mathlib.Omega.{arith}
use lib.ListN.{length, set, length-set}
use lib.Seq.{get_or-set_same, get_or-set_other}
use Rattle.gauge.specs.Line.{height_at}
use Rattle.envelope.specs.Stretches.{Stretches, starts, holders}
use Rattle.envelope.proofs.Turns.{one_stretch, turned}
use Rattle.envelope.proofs.Stores.{initial}
use Rattle.envelope.proofs.build.Goals as goal

pub bounds-work-n : goal.bounds-work-n
bounds-work-n c = simp length-set (omega arith)

pub loop-u-init : goal.loop-u-init
loop-u-init c =
    let p = c.requires in
    let w = c.args.work.now in
    let n = length c.args.values.now in (
      record { line = p.line; room = simp length-set p.room },
      one_stretch _ (starts (set (set w 0 0) n 0)) (holders n (set (set w 0 0) n 0)) p.line.from
          (get_or-set_other (set w 0 0) n 0 0 0 (omega arith) ∙ get_or-set_same w 0 0 0 (omega arith))
          (rw add-zero (get_or-set_same (set w 0 0) n 0 0 (simp length-set (omega arith)))),
    )

pub turn-m-requires : goal.turn-m-requires
turn-m-requires c = let i = c.loop-u.invariant in (i.0, omega arith, i.1)

pub loop-u-preserved : goal.loop-u-preserved
loop-u-preserved c =
    let i = c.loop-u.invariant in (
      record { line = i.0.line; room = c.turn-m.auto.work ∙ i.0.room },
      turned _ i.1 (initial _ _ _) c.turn-m.ensures,
    )

pub shape_of-work : goal.shape_of-work
shape_of-work c = c.loop-u.invariant.0.room ∙ sym c.requires.room

pub returns : goal.returns
returns c =
    let i = c.loop-u.invariant in
    let a = c.args in
    let values = a.values.now in
    let all : c.loop-u.u ≡ length values = omega (arith, c.loop-u.auto.u-end i.0.line.from) in
    subst (λ u. Stretches (height_at a.g.now.kind values) (length values) u c.loop-u.m
    (starts c.loop-u.work) (holders (length values) c.loop-u.work)) all i.1
