-- `columns::bad_band` meets its contract: some byte of the band is bad where the greatest byte of some row is. Assumes
-- nothing.
use mathlib.Core.Path.{refl}
use native.Mathlib.Omega.{arith}
use Rattle.std.proofs.Common.{rules, tests}
use Rattle.std.proofs.lemmas.Iterator.{serves_from_Range, cases_from_any, YieldsList-from_range}
use Rattle.rules.proofs.Board.{row_ends}
use Rattle.columns.proofs.Testing.{RowBad, RowGood, band_is}
use Rattle.columns.proofs.bad_band.Goals as goal

pub any-requires-clause-callable : goal.any-requires-clause-callable
any-requires-clause-callable c =
    serves_from_Range (λ y q k. search (rules, tests))
    (λ y from to. let ends = row_ends c.args.band.board.w refl to in search (rules, arith))

pub returns : goal.returns
returns c =
    let band = c.args.band in
    band_is band.board.h c.any.result
    (cases_from_any _ _ _ (RowBad band.board.w band.from band.to c.args.picture.now) (RowGood band.board.w band.from band.to c.args.picture.now)
    c.any.ensures.ran (YieldsList-from_range 0 band.board.h band.board.h refl (omega arith))
    (λ y q k. search (rules, tests)) (λ y q k. (search rules, search (rules, tests))))
