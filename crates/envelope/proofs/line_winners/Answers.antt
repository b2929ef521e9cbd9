-- `envelope::line_winners` meets its contract: the stretches of the whole line, spread over it. Assumes nothing.
use mathlib.Core.Path.{◌∙◌}
use Rattle.envelope.proofs.Spreading.{spreads_of, wins_spread}
use Rattle.envelope.proofs.line_winners.Goals as goal

pub build-m-requires : goal.build-m-requires
build-m-requires c = c.requires.0

pub spread-requires : goal.spread-requires
spread-requires c =
    let p = c.requires in
    spreads_of c.build-m.ensures p.1 (c.build-m.auto.work ∙ p.0.room)

pub shape_of-work : goal.shape_of-work
shape_of-work c = c.build-m.auto.work

pub shape_of-winners : goal.shape_of-winners
shape_of-winners c = c.spread.auto.winners

pub returns : goal.returns
returns c = wins_spread c.build-m.ensures c.requires.1 c.spread.ensures
