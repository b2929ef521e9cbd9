-- `gauge::last_manhattan` meets its contract by the two laws of kind 1. Assumes nothing.
use native.Mathlib.Omega.{arith}
use Rattle.gauge.proofs.Places.{first_away, manhattan_everywhere, manhattan_last}
use Rattle.gauge.proofs.last_manhattan.Goals as goal

pub returns-then-right-p-clause-last : goal.returns-then-right-p-clause-last
returns-then-right-p-clause-last c = manhattan_everywhere _ _ _ _ _ (omega (arith, c.args.p.given.apart)) (omega arith)

pub overflow_sub-result : goal.overflow_sub-result
overflow_sub-result c = omega (arith, first_away c.args.p.i, first_away c.args.p.u)

pub returns-clause-last : goal.returns-clause-last
returns-clause-last c =
    let p = c.args.p in
    manhattan_last _ _ _ _ _ (omega (arith, p.given.apart)) (omega arith) (omega (arith, first_away p.i, first_away p.u))
