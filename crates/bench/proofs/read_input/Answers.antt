use Rattle.std.proofs.Common.{length, ◌-◌, rules, subst, sym}
use Rattle.std.specs.Io.KnownBytes.{Consumes}
use Rattle.std.proofs.KnownBytes.{Consumes-trans}
use Rattle.bench.proofs.Reading.{piece_behind}
use Rattle.bench.proofs.read_input.Goals as goal

pub loop-n-preserved : goal.loop-n-preserved
loop-n-preserved g c =
    let n = c.loop-n.n in
    let count = c.in_ok-count.count in
    let room = c.loop-n.room in
    let more = piece_behind n (length room - n) count room c.read.new.buf c.loop-n.invariant.0 c.in_ok-count.ensures.bound.0 in
    (search rules, subst (Consumes _ _) (sym more) (Consumes-trans _ _ _ _ _ c.loop-n.invariant.1 c.in_ok-count.ensures.bytes.0))
