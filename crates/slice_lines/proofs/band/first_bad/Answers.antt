-- `slice_lines::band::first_bad` meets its contract. A band without a bad byte is answered at once, and else the search tests
-- one column after the other. Assumes nothing.
use mathlib.Core.Bool.{Bool, true, false}
use Prim.Native.Nat.{ℕ, ◌+◌}
use Rattle.std.proofs.Common.{rules, tests}
use Rattle.std.proofs.lemmas.Iterator.{first_from_Range}
use Rattle.columns.specs.Bands.{BadBand}
use Rattle.slice_lines.proofs.Testing.{whole_band, first_found}
use Rattle.slice_lines.proofs.band.first_bad.Goals as goal

pub returns-then-not-bad_band-clause-first : goal.returns-then-not-bad_band-clause-first
returns-then-not-bad_band-clause-first c = whole_band c.args.band.ordered c.bad_band.ensures c.if-not-bad_band.true

pub returns-clause-first : goal.returns-clause-first
returns-clause-first c =
    let band = c.args.band in
    let tested = λ (x : ℕ) (found : Bool). BadBand band.board.w band.board.h x (x + 1) c.args.picture.now found in
    first_found c.find.result band.ordered
    (first_from_Range _ _ _ _ (λ x. tested x true) (λ x. tested x false) c.find.ensures.ran
    (λ x q k. search (rules, tests)) (λ x q k. search (rules, tests)))
