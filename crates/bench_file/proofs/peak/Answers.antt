use mathlib.Core.Path.{◌≡◌, sym, subst}
use Prim.Native.Nat.{◌+◌}
use native.Mathlib.Omega.{arith}
use lib.ListN.{length}
use Rattle.bench_file.specs.Reading.{Peak}
use Rattle.bench_file.proofs.Peaks.{peak_one, peak_stays, peak_moves}
use Rattle.bench_file.proofs.peak.Goals.{then-words-best, else-words-best}
use Rattle.bench_file.proofs.peak.Goals as goal

pub loop-k-init : goal.loop-k-init
loop-k-init c = peak_one c.args.words.now

pub loop-k-preserved : goal.loop-k-preserved
loop-k-preserved c =
    let words = c.args.words.now in
    let i = c.loop-k.invariant in
    elim c.if-words-best.branch [
      | then-words-best w ↦ subst (Peak words (c.loop-k.k + 1)) (sym w.best-is) (peak_moves i (omega arith))
      | else-words-best w ↦ subst (Peak words (c.loop-k.k + 1)) (sym w.best-is) (peak_stays i (omega arith))
    ]

pub returns : goal.returns
returns c =
    let words = c.args.words.now in
    let all : c.loop-k.k ≡ length words = omega (arith, c.loop-k.auto.k-end c.requires) in
    subst (λ n. Peak words n c.loop-k.best) all c.loop-k.invariant
