-- `envelope::begin` meets its contract: the last stretch kept is the one whose holder is asked. Assumes nothing.
use Rattle.envelope.proofs.Stores.{begins_after}
use mathlib.Core.Path.{◌≡◌, refl}
use Prim.Native.Nat.{◌+◌, ◌-◌}
use native.Mathlib.Omega.{arith}
use Rattle.envelope.proofs.begin.Goals as goal

pub place-requires : goal.place-requires
place-requires c =
    let p = c.requires in
    let k = c.args.kept - 1 in
    let e : k + 1 ≡ c.args.kept = omega arith in
    (p.0.line, p.3.before k e, p.1, p.3.first k e)

pub returns : goal.returns
returns c = begins_after c.args.work.now c.if-kept-eq0.false refl c.place.ensures
