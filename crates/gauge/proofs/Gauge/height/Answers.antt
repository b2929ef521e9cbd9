-- `gauge::Gauge::height` meets its contract: two places of a line are less than the side apart. Assumes nothing.
use mathlib.Core.Path.{◌≡◌, ◌∙◌, ap}
use native.Mathlib.Omega.{arith}
use lib.ListN.{get_or}
use Rattle.rules.specs.Board.{away}
use Rattle.gauge.specs.Line.{measured, height_at}
use Rattle.gauge.proofs.Places.{apart_below}
use Rattle.gauge.proofs.Gauge.height.Goals.{After-abs_diff}
use Rattle.gauge.proofs.Gauge.height.Goals as goal

-- what lies between them
between : (c : After-abs_diff) → c.abs_diff.result ≡ away c.args.x c.args.i
unfolding away
between c = omega (arith, c.abs_diff.ensures)

pub combined-requires : goal.combined-requires
combined-requires c =
    let a = c.args in
    let p = c.requires in
    (omega (arith, p.0.to, between (goal.at.combined-requires c).After-abs_diff, apart_below a.x a.i), p.0.values_to a.i p.1)

pub returns : goal.returns
unfolding height_at
returns c =
    let a = c.args in
    c.combined.ensures
    ∙ ap (λ dx. (measured a.self.now.kind).combine dx (get_or a.values.now a.i 0)) (between (goal.at.returns c).After-abs_diff)
