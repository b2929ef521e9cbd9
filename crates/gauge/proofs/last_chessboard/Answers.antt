-- `gauge::last_chessboard` meets its contract by the two laws of kind 2. Assumes nothing.
use native.Mathlib.Omega.{arith}
use Rattle.gauge.proofs.Places.{first_away, chessboard_left, chessboard_right}
use Rattle.gauge.proofs.last_chessboard.Goals as goal

pub returns-then-p-clause-last : goal.returns-then-p-clause-last
returns-then-p-clause-last c =
    let p = c.args.p in
    chessboard_left _ _ _ _ _ _ (omega (arith, p.given.apart)) (omega arith) (omega (arith, c.max.ensures))

pub overflow_sub-right : goal.overflow_sub-right
overflow_sub-right c = let p = c.args.p in omega (arith, first_away p.i, first_away p.u)

pub returns-clause-last : goal.returns-clause-last
returns-clause-last c =
    let p = c.args.p in
    chessboard_right _ _ _ _ _ _ (omega (arith, p.given.apart)) (omega arith)
    (omega (arith, first_away p.i, first_away p.u)) (omega (arith, c.min.ensures))
