-- The changeover is the floor. A whole number z is read as `up z` less `down z`, two numbers of which one is 0, so that
-- every law about whole numbers becomes one about ℕ. The square of p − i is p² + i² less twice p times i; put that in
-- on both sides of (p−i)² + a ≤ (p−u)² + b, and p² falls out: what is left is p · 2(u−i) ≤ u² − i² + b − a. A whole p
-- has that exactly when it is not above the floor of the quotient. So the floor has it and is the greatest that does,
-- and two greatest ones are equal. Assumes nothing.
use mathlib.Core.Path.{◌≡◌, refl, ap, ◌∙◌}
use mathlib.Core.Logic.{◌↔◌, by_cases}
use mathlib.Core.Bool.{not}
use Prim.Native.Nat.{ℕ, zero, suc, ◌+◌, ◌-◌, ◌*◌, ◌/◌, ◌≤◌, ◌<◌}
use native.Mathlib.Decide.{dec_lt}
use native.Mathlib.Nat.{le-div_iff_mul-le, div-lt_iff_lt-mul, add-div_right, suc-sub-suc, sub-zero}
use native.Mathlib.Numerals.{add-one}
use native.Mathlib.Omega.{arith}
use lib.Dec.{leb→le, le→leb}
use lib.IntN.{ℤ, pos, negsuc, sub_ℕ, neg_ℤ, suc_ℤ, ◌+ℤ◌, ◌-ℤ◌, ◌*ℤ◌, +ℤ_one}
use lib.Signed.{◌≤ℤ◌, ◌<ℤ◌, le_z_yes, lt_z_yes, lt_z_no, lt_z, ≤ℤ_refl}
use mir.Facts.{T_not-not, not_T}
use borrow.Author.Tests.{lt-ltb, le-ltb}
use Rattle.rules.specs.Changeover.{squared, Holds, Changeover, numerator, divisor, floor}

-- a whole number z is up z less down z, and one of the two is 0
abbrev up : ℤ → ℕ
up (pos n) = n
up (negsuc n) = 0

abbrev down : ℤ → ℕ
down (pos n) = 0
down (negsuc n) = suc n

-- the order of two whole numbers, in ℕ
order : (z t : ℤ) → (z ≤ℤ t) ↔ (up z + down t ≤ up t + down z)
order (pos m) (pos n) = (λ h. omega (arith, leb→le), λ h. le_z_yes (omega (arith, le→leb)))
order (pos m) (negsuc n) = (λ h. absurd h.le, λ h. absurd (omega arith))
order (negsuc m) (pos n) = (λ h. omega arith, λ h. le_z_yes tt)
order (negsuc m) (negsuc n) = (λ h. omega (arith, leb→le), λ h. le_z_yes (omega (arith, le→leb)))

-- x less y, as a whole number
taken : (x y : ℕ) → up (sub_ℕ x y) + y ≡ down (sub_ℕ x y) + x
taken x y =
    by_cases (dec_lt x y) (λ h. rw (lt-ltb x y h) (omega arith)) (λ h. rw (le-ltb x y (omega arith)) (omega arith))

-- a whole number less i
less : (z : ℤ) (i : ℕ) → up (z -ℤ pos i) + (down z + i) ≡ down (z -ℤ pos i) + up z
less (pos n) zero = omega arith
less (pos n) (suc i) = omega (arith, taken n (suc i))
less (negsuc n) zero = omega (arith, taken 0 (suc n))
less (negsuc n) (suc i) = omega arith

-- a number turned negative
turned : (n : ℕ) → (up (neg_ℤ (pos n)) ≡ 0) × (down (neg_ℤ (pos n)) ≡ n)
turned zero = (refl, refl)
turned (suc n) = (refl, refl)

-- a multiple of a whole number
times : (z : ℤ) (d : ℕ) → (up (z *ℤ pos d) ≡ up z * d) × (down (z *ℤ pos d) ≡ down z * d)
times (pos n) d = (refl, omega arith)
times (negsuc n) d = (omega (arith, turned (suc n * d)), (turned (suc n * d)).1)

-- the square of x less y, and twice x times y, is the sum of the two squares
square : (z : ℤ) (x y : ℕ) → up z + y ≡ down z + x → squared z + 2 * (x * y) ≡ x * x + y * y
square (pos n) x y h =
    let e : x ≡ n + y = omega arith in
    rw e (omega arith)
square (negsuc n) x y h =
    let e : y ≡ suc n + x = omega arith in
    rw e (omega arith)

-- the inequality of the changeover in ℕ, with column u at i + d: the square of p has gone
plain : (i d a b : ℕ) (p : ℤ) → Holds i (i + d) a b p
    ↔ (up p * (2 * d) + (i * i + a) ≤ down p * (2 * d) + ((i + d) * (i + d) + b))
plain i d a b p =
    let left = square (p -ℤ pos i) (up p) (down p + i) (less p i) in
    let right = square (p -ℤ pos (i + d)) (up p) (down p + (i + d)) (less p (i + d)) in
    omega (arith, left, right)

-- p has the changeover's inequality exactly when p times the divisor is at most the numerator
pub changeover_holds_iff : (i u a b : ℕ) (p : ℤ) → i < u → Holds i u a b p
    ↔ ((p *ℤ pos (divisor i u)) ≤ℤ numerator i u a b)
changeover_holds_iff i u a b p h =
    let e : i + (u - i) ≡ u = omega arith in
    let ways = rw e at (plain i (u - i) a b p) in
    let sizes = times p (divisor i u) in
    let above = less (pos (u * u + b)) (i * i + a) in
    let ranked = order (p *ℤ pos (divisor i u)) (numerator i u a b) in
    (λ k. ranked.1 (omega (arith, ways.0 k)), λ k. ways.1 (omega (arith, ranked.0 k)))

-- what `floor_iff` says, in ℕ
floored : (n q : ℤ) {d : ℕ} → 0 < d → (up q + down (floor n d) ≤ up (floor n d) + down q)
    ↔ (up q * d + down n ≤ up n + down q * d)
floored (pos n) (pos q) {d} h =
    let e : (q ≤ n / d) ↔ (q * d ≤ n) = le-div_iff_mul-le h in
    (λ k. omega (arith, e.0 (omega arith)), λ k. omega (arith, e.1 (omega arith)))
floored (pos n) (negsuc q) h = omega arith
floored (negsuc n) (pos q) h = omega arith
floored (negsuc n) (negsuc q) {d} h =
    let e : (n / d < suc q) ↔ (n < suc q * d) = div-lt_iff_lt-mul h in
    (λ k. omega (arith, e.0 (omega arith)), λ k. omega (arith, e.1 (omega arith)))

-- a whole q is at most the floor exactly when q times the divisor is at most the number
pub floor_iff : (n q : ℤ) {d : ℕ} → 0 < d → (q ≤ℤ floor n d) ↔ ((q *ℤ pos d) ≤ℤ n)
floor_iff n q {d} h =
    let ways = floored n q h in
    let sizes = times q d in
    let lower = order q (floor n d) in
    let ranked = order (q *ℤ pos d) n in
    (λ k. ranked.1 (omega (arith, ways.0 (lower.0 k))), λ k. lower.1 (ways.1 (omega (arith, ranked.0 k))))

-- the floor times the divisor is at most the number
pub floor_low : (n : ℤ) {d : ℕ} → 0 < d → (floor n d *ℤ pos d) ≤ℤ n
floor_low n {d} h = (floor_iff n (floor n d) h).0 (≤ℤ_refl (floor n d))

-- the next whole number is never at most the number
next : (z : ℤ) → ¬ (suc_ℤ z ≤ℤ z)
next (pos n) h = omega (arith, leb→le)
next (negsuc zero) h = h.le
next (negsuc (suc n)) h = omega (arith, leb→le)

-- a whole number is below every one that is not at most it
below : (z t : ℤ) → ¬ (t ≤ℤ z) → z <ℤ t
below z t h = lt_z_yes (T_not-not (lt_z z t) (not_T (not (lt_z z t)) (λ k. h (lt_z_no k))))

-- one more than the floor, times the divisor, is above the number
pub floor_high : (n : ℤ) {d : ℕ} → 0 < d → n <ℤ ((floor n d +ℤ pos 1) *ℤ pos d)
floor_high n {d} h = rw +ℤ_one (below n _ (λ k. next (floor n d) ((floor_iff n (suc_ℤ (floor n d)) h).1 k)))

-- two whole numbers, each at most the other, are equal
pub ≤ℤ-antisymm : {z t : ℤ} → z ≤ℤ t → t ≤ℤ z → z ≡ t
≤ℤ-antisymm {z = pos m} {t = pos n} h k = ap pos (omega (arith, leb→le))
≤ℤ-antisymm {z = pos m} {t = negsuc n} h k = absurd h.le
≤ℤ-antisymm {z = negsuc m} {t = pos n} h k = absurd k.le
≤ℤ-antisymm {z = negsuc m} {t = negsuc n} h k = ap negsuc (omega (arith, leb→le))

-- the floor is a changeover, so there is one
pub changeover_floor : (i u a b : ℕ) → i < u → Changeover i u a b (floor (numerator i u a b) (divisor i u))
changeover_floor i u a b h =
    let n = numerator i u a b in
    let some_width : 0 < divisor i u = omega arith in
    record {
      holds = (changeover_holds_iff i u a b (floor n (divisor i u)) h).1 (floor_low n some_width);
      greatest = λ q k. (floor_iff n q some_width).1 ((changeover_holds_iff i u a b q h).0 k);
    }

-- there is one changeover at most
pub changeover_unique : {i u a b : ℕ} {p q : ℤ} → Changeover i u a b p → Changeover i u a b q → p ≡ q
changeover_unique {p} {q} c e = ≤ℤ-antisymm (e.greatest p c.holds) (c.greatest q e.holds)

-- the changeover is the floor
pub changeover_is_floor : {i u a b : ℕ} {p : ℤ} → i < u → Changeover i u a b p
    → p ≡ floor (numerator i u a b) (divisor i u)
changeover_is_floor {i} {u} {a} {b} h c = changeover_unique c (changeover_floor i u a b h)

-- a number that is not below zero is rounded down
pub floor_up : (top low d : ℕ) → low ≤ top → pos ((top - low) / d) ≡ floor (pos top -ℤ pos low) d
floor_up top zero d h = ap (λ n. pos (n / d)) (omega arith)
floor_up top (suc low) d h = rw (le-ltb top (suc low) h)

-- and one below zero away from zero
pub floor_down : (top low d : ℕ) → 0 < d → top < low → pos 0 -ℤ pos ((low - top + d - 1) / d) ≡ floor (pos top -ℤ pos low) d
floor_down top zero d some h = absurd (omega arith)
floor_down top (suc low) d some h =
    let e : (suc low - top + d - 1) / d ≡ suc ((low - top) / d) =
    ap (λ n. n / d) (omega arith) ∙ add-div_right (low - top) some ∙ add-one ((low - top) / d) in
    let q = (low - top) / d in
    rw (lt-ltb top (suc low) h, e, lt-ltb 0 (suc q) (omega arith), suc-sub-suc low top, suc-sub-suc q 0, sub-zero q)
