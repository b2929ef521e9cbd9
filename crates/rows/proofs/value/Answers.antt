-- `rows::value` meets its contract: the mark stands for the line limit, and any other word is a row. Assumes nothing.
use mathlib.Core.Path.{◌≡◌, ◌∙◌, ap}
use mathlib.Core.Logic.{⊎_elim}
use Rattle.std.proofs.Common.{◌≢◌, rules}
use borrow.Author.Tests.{ne_eqb}
use native.Mathlib.Omega.{arith}
use Rattle.rules.specs.Limits.{mark}
use Rattle.rules.specs.Board.{away}
use Rattle.gauge.specs.Line.{measured}
use Rattle.gauge.proofs.Places.{apart_below}
use Rattle.rows.proofs.value.Goals.{After-abs_diff}
use Rattle.rows.proofs.value.Goals as goal

-- what lies between the rows
between : (c : After-abs_diff) → c.abs_diff.result ≡ away c.args.y c.args.word
unfolding away
between c = omega (arith, c.abs_diff.ensures)

pub lifted-requires : goal.lifted-requires
lifted-requires c =
    let unmarked : c.args.word ≢ mark = search rules in
    ⊎_elim
    (λ l. omega (arith, between (goal.at.lifted-requires c).After-abs_diff, apart_below c.args.y c.args.word))
    (λ e. absurd (unmarked e)) c.requires.1

pub returns : goal.returns
returns c =
    let unmarked : c.args.word ≢ mark = search rules in
    rw (ne_eqb c.args.word mark unmarked)
    (c.lifted.ensures.lift ∙ ap (measured c.args.g.now.kind).lift (between (goal.at.returns c).After-abs_diff))
