-- Where a column stops holding, for each kind. Seen from a place x, columns i < u lie both to the right, one on each
-- side, or both to the left; each way is an equation without a difference, and what is left is plain arithmetic. For
-- kind 0 the squares are made sums first: |x − i|² + 2·x·i = x² + i². Assumes nothing.
use mathlib.Core.Path.{◌≡◌, refl, ap, ◌∙◌}
use mathlib.Core.Logic.{◌↔◌, ◌⊎◌, inl, inr}
use mathlib.Core.List.{List}
use Prim.Native.Nat.{ℕ, zero, suc, ◌+◌, ◌-◌, ◌*◌, ◌/◌, ◌≤◌, ◌<◌, min, max}
use native.Mathlib.Nat.{le-div_iff_mul-le, mul-add, lt_of_not-le}
use native.Mathlib.Omega.{arith}
use Rattle.rules.specs.Board.{away}
use Rattle.rules.specs.Measures.{HasParts, measure, HoldsAt}
use Rattle.rules.proofs.Board.{away_square, Lies, lies, left, between, right}
use lib.ListN.{length, get_or}
use Rattle.rules.specs.declared.kind.LineKind.{LineKind}
use Rattle.gauge.specs.Line.{measured, height_at}
use Rattle.gauge.specs.Places.{Last, Place}

-- kind 0: i holds x exactly where x times the divisor is at most the numerator
euclid_holds : (i u a b x : ℕ) → i < u → HoldsAt (measure 0) i u a b x ↔ (x * (2 * (u - i)) + (i * i + a) ≤ u * u + b)
euclid_holds i u a b x l =
    let d : ℕ = u - i in
    let e : u ≡ i + d = omega arith in
    let p : x * u ≡ x * i + x * d = ap (λ k. x * k) e ∙ mul-add x i d in
    let q = away_square x i in
    let r = away_square x u in
    (omega arith, omega arith)

-- the changeover of kind 0, for values with which i holds the first place
pub euclid_last : (n i u a b : ℕ) → i < u → i * i + a ≤ u * u + b
    → Last (measure 0) n i u a b ((u * u + b - (i * i + a)) / (2 * (u - i)))
euclid_last n i u a b l h =
    let some : 0 < 2 * (u - i) = omega arith in
    let top : ℕ = u * u + b - (i * i + a) in
    record {
      holds = λ x le on. (euclid_holds i u a b x l).1 (omega (arith, (le-div_iff_mul-le some).0 le));
      stops =
          λ on.
          lt_of_not-le
          (λ le.
          let most : (top / (2 * (u - i)) + 1) * (2 * (u - i)) ≤ top = omega (arith, (euclid_holds i u a b (top / (2 * (u - i)) + 1) l).0 le) in
          let more : top / (2 * (u - i)) + 1 ≤ top / (2 * (u - i)) = (le-div_iff_mul-le some).1 most in
          absurd (omega arith));
    }

-- kind 1: i holds everywhere where u's curve lies on or above i's right arm, and else up to the middle
pub manhattan_everywhere : (n i u a b : ℕ) → i < u → u + a ≤ i + b → Last (measure 1) n i u a b n
manhattan_everywhere n i u a b l h =
    record { holds = λ x le on. at x (lies x l); stops = λ on. absurd (omega arith) }
  where
    at : (x : ℕ) → Lies x i u → HoldsAt (measure 1) i u a b x
    at x (left w) = omega arith
    at x (between w) = omega arith
    at x (right w) = omega arith

pub manhattan_last : (n i u a b : ℕ) → i < u → i + b < u + a → i + a ≤ u + b → Last (measure 1) n i u a b ((u + i + b - a) / 2)
manhattan_last n i u a b l h z =
    record {
      holds = λ x le on. before x le (lies x l);
      stops = λ on. after ((u + i + b - a) / 2) refl (lies ((u + i + b - a) / 2 + 1) l);
    }
  where
    before : (x : ℕ) → x ≤ (u + i + b - a) / 2 → Lies x i u → HoldsAt (measure 1) i u a b x
    before x le (left w) = omega arith
    before x le (between w) = omega arith
    before x le (right w) = omega arith

    after : (p : ℕ) → p ≡ (u + i + b - a) / 2 → Lies (p + 1) i u → away (p + 1) u + b < away (p + 1) i + a
    after p e (left w) = omega arith
    after p e (between w) = omega arith
    after p e (right w) = omega arith

-- kind 2: with the lesser value left, i holds as far as its right arm is below u's flat part, or the middle
pub chessboard_left : (n i u a b p : ℕ) → i < u → a ≤ b → p ≡ max (i + b) ((i + u) / 2) → Last (measure 2) n i u a b p
chessboard_left n i u a b p l h e =
    record { holds = λ x le on. before x le (lies x l); stops = λ on. after (lies (p + 1) l) }
  where
    before : (x : ℕ) → x ≤ p → Lies x i u → HoldsAt (measure 2) i u a b x
    before x le (left w) = omega arith
    before x le (between w) = omega arith
    before x le (right w) = omega arith

    after : Lies (p + 1) i u → max (away (p + 1) u) b < max (away (p + 1) i) a
    after (left w) = omega arith
    after (between w) = omega arith
    after (right w) = omega arith

-- with the lesser value right, as far as u's left arm is above i's flat part, and the middle
pub chessboard_right : (n i u a b p : ℕ) → i < u → b < a → a ≤ u → p ≡ min (u - a) ((i + u) / 2) → Last (measure 2) n i u a b p
chessboard_right n i u a b p l h z e =
    record { holds = λ x le on. before x le (lies x l); stops = λ on. after (lies (p + 1) l) }
  where
    before : (x : ℕ) → x ≤ p → Lies x i u → HoldsAt (measure 2) i u a b x
    before x le (left w) = omega arith
    before x le (between w) = omega arith
    before x le (right w) = omega arith

    after : Lies (p + 1) i u → max (away (p + 1) u) b < max (away (p + 1) i) a
    after (left w) = omega arith
    after (between w) = omega arith
    after (right w) = omega arith

-- the first place is as far from a column as the column's number
pub first_away : (i : ℕ) → away 0 i ≡ i
unfolding away
first_away i = omega arith

-- two places of a line are less than its length apart
pub apart_below : (x i : ℕ) → away x i ≤ max x i
unfolding away
apart_below x i = omega arith

-- a kind that has parts, and is neither 0 nor 1, is 2
pub third_kind : {kind : ℕ} → HasParts kind → (kind ≡ 0 → ⊥) → (kind ≡ 1 → ⊥) → kind ≡ 2
third_kind p a b = omega (arith, p.kind_in, p.no_chamfer)

-- in the other kinds but 0 a difference of rows is lifted to itself
pub flat_lift : (kind dy : ℕ) → (kind ≡ 0 → ⊥) → dy ≡ (measure kind).lift dy
flat_lift zero dy other = absurd (other refl)
flat_lift (suc zero) dy other = refl
flat_lift (suc (suc k)) dy other = refl

-- the place where i stops holding, from the last place that it holds
pub place_of : (kind : LineKind) (values : List ℕ) (i u p r : ℕ) → let n = length values in
    Last (measured kind) n i u (get_or values i 0) (get_or values u 0) p → ((p + 1 < n) × (r ≡ p + 1)) ⊎ ((n ≤ p + 1) × (r ≡ n))
    → Place (height_at kind values) n i u r
unfolding height_at
place_of kind values i u p r L (inl e) =
    record {
      on_line = omega arith;
      holds = λ x h. L.holds x (omega arith) (omega arith);
      stops = λ h. rw e.1 (L.stops e.0);
    }
place_of kind values i u p r L (inr e) =
    record {
      on_line = omega arith;
      holds = λ x h. L.holds x (omega arith) (omega arith);
      stops = λ h. absurd (omega arith);
    }
