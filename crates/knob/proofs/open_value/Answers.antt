-- `knob::open_value` meets its contract. A value that passes both tests may be cut, and the whole number so cut is one
-- that a knob can give; if its 1/64 equals the value, the value is good for it. Each other way out refutes that the
-- value is good: a good value passes both tests and comes back. Assumes nothing.
use Rattle.std.proofs.Common.{sym, refl, subst, arith}
use lib.Ieee.{of_bits}
use Rattle.knob.proofs.Range.{Whole, holds_whole, in_range, cut_asks, cut_whole}
use Rattle.knob.proofs.Scaling.{came_back, not_below, not_above, not_lost}
use Rattle.knob.proofs.open_value.Goals.{After-truncating_f32_to_u64-k, else-x-via-then-x+else-x-2, else-x-via-else-x}
use Rattle.knob.proofs.open_value.Goals as goal

-- the whole part of the scaled value is a number that a knob can give
whole : (c : After-truncating_f32_to_u64-k) → Whole c.truncating_f32_to_u64-k.result
unfolding of_bits
whole c =
    subst Whole (sym c.truncating_f32_to_u64-k.ensures)
    (cut_whole _ (in_range _ _ c.if-x.true c.if-x-2.true (refl, refl)))

pub truncating_f32_to_u64-k-requires : goal.truncating_f32_to_u64-k-requires
unfolding of_bits
truncating_f32_to_u64-k-requires c =
    let w = cut_asks _ (in_range _ _ c.if-x.true c.if-x-2.true (refl, refl)) in
    record { lower_bound = w.0; upper_bound = w.1 }

pub overflow_cast-k : goal.overflow_cast-k
overflow_cast-k c = omega (arith, whole c)

pub int_to_float-k : goal.int_to_float-k
int_to_float-k c = holds_whole (whole (goal.at.int_to_float-k c).After-truncating_f32_to_u64-k)

pub returns-then-k-value : goal.returns-then-k-value
unfolding of_bits
returns-then-k-value c = came_back _ _ (whole (goal.at.returns-then-k-value c).After-truncating_f32_to_u64-k) c.if-k-value.true (refl, refl)

pub returns-else-k-value : goal.returns-else-k-value
unfolding of_bits
returns-else-k-value c k g =
    not_lost _ _ c.well_formed.0.1 (refl, refl) g _
    c.truncating_f32_to_u64-k.ensures c.if-k-value.false (refl, refl)

pub returns-else-x : goal.returns-else-x
unfolding of_bits
returns-else-x c k g =
    let fits = c.well_formed.0.1 in
    elim c.else-x.branch [
      | else-x-via-then-x+else-x-2 w ↦ not_above _ _ fits (refl, refl) g w.if-x-2.false
      | else-x-via-else-x w ↦ not_below _ _ fits (refl, refl) g _ w.if-x.false (refl, refl)
    ]
