-- `gauge::Gauge::place` meets its contract: one past the last place that i holds, cut off at the line's end. Assumes nothing.
use mathlib.Core.Path.{refl}
use mathlib.Core.Logic.{inl, inr}
use Rattle.gauge.specs.Line.{height_at}
use Rattle.gauge.proofs.Places.{place_of}
use Rattle.gauge.proofs.Gauge.place.Goals as goal

pub last-p-requires : goal.last-p-requires
unfolding height_at
last-p-requires c = c.requires.3

pub returns-then-p-end : goal.returns-then-p-end
returns-then-p-end c = place_of _ _ _ _ c.last-p.result _ c.last-p.ensures.last (inl (c.if-p-end.true, refl))

pub returns-else-p-end : goal.returns-else-p-end
returns-else-p-end c = place_of _ _ _ _ c.last-p.result _ c.last-p.ensures.last (inr (c.if-p-end.false, refl))
