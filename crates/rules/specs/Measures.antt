-- "The measures": the four kinds over absolute differences, and the weights of kind 3. All kinds but that are also said
-- as a measure of two parts, lift and combine, which is what the engine along a line and the step from columns to rows
-- go by. Assumes nothing.
use Rattle.std.specs.Prelude.{ℕ, zero, suc, ◌+◌, ◌-◌, ◌*◌, ◌≤◌, ◌<◌, min, max, ◌≡◌, ◌≢◌}
use Rattle.rules.specs.Limits.{kind_limit, weight_limit}
use Rattle.rules.specs.Board.{away}

-- kind 3: "d2·min(dx,dy) + d1·(max − min)"
unfoldable pub chamfer : ℕ → ℕ → ℕ → ℕ → ℕ
chamfer d1 d2 dx dy = d2 * min dx dy + d1 * (max dx dy - min dx dy)

-- the table of kinds: "dx² + dy², squared, never rooted", "dx + dy", "the larger of dx, dy", and the chamfer form
abbrev pub distance : ℕ → ℕ → ℕ → ℕ → ℕ → ℕ
distance zero d1 d2 dx dy = dx * dx + dy * dy
distance (suc zero) d1 d2 dx dy = dx + dy
distance (suc (suc zero)) d1 d2 dx dy = max dx dy
distance (suc (suc (suc k))) d1 d2 dx dy = chamfer d1 d2 dx dy

-- the kind that names no cell and reads the weights
abbrev pub chamfer_kind : ℕ
chamfer_kind = 3

-- "We accept d1 from 1 to 255 with d1 ≤ d2 ≤ 2·d1."
pub record Weights (d1 d2 : ℕ) : Type 0 where
  pub from : 1 ≤ d1
  pub to : d1 ≤ weight_limit
  pub straight_least : d1 ≤ d2
  pub slanted_most : d2 ≤ 2 * d1

-- A measure in two parts: `lift` is what dy adds in its column, `combine` what dx makes of a column's value.
pub record Measure : Type 0 where
  pub lift : ℕ → ℕ
  pub combine : ℕ → ℕ → ℕ

-- kinds 0, 1 and 2 in these parts: 002's (x−i)² + G², |x−i| + G, max(|x−i|, G)
abbrev pub measure : ℕ → Measure
measure zero = record { lift = λ dy. dy * dy; combine = λ dx v. dx * dx + v }
measure (suc zero) = record { lift = λ dy. dy; combine = λ dx v. dx + v }
measure (suc (suc k)) = record { lift = λ dy. dy; combine = λ dx v. max dx v }

-- the kinds that have these parts, and whose maps name a cell: all but the chamfer form
pub record HasParts (kind : ℕ) : Type 0 where
  pub kind_in : kind ≤ kind_limit
  pub no_chamfer : kind ≢ chamfer_kind

-- For columns i < u: the curve of column i, which holds the value a, is at most that of u, which holds b, at the place x.
abbrev pub HoldsAt : Measure → ℕ → ℕ → ℕ → ℕ → ℕ → Type 0
HoldsAt m i u a b x = m.combine (away x i) a ≤ m.combine (away x u) b

-- What a measure has to keep. More dy never lifts less; a lesser value never combines to more, and none to less than
-- itself; and for columns i < u the places where i holds are an initial stretch.
pub record Lawful (m : Measure) : Type 0 where
  pub rises : (dy dy' : ℕ) → dy ≤ dy' → m.lift dy ≤ m.lift dy'
  pub keeps : (dx v v' : ℕ) → v ≤ v' → m.combine dx v ≤ m.combine dx v'
  pub stands : (dx v : ℕ) → v ≤ m.combine dx v
  pub stretch : (i u a b x x' : ℕ) → i < u → x' ≤ x → HoldsAt m i u a b x → HoldsAt m i u a b x'

-- What costs ask besides: what is added to a column's value is added to the whole.
pub record Additive (m : Measure) : Type 0 where
  pub adds : (dx v c : ℕ) → m.combine dx (v + c) ≡ m.combine dx v + c
