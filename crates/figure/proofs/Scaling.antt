-- A whole number below 2^53, as an f64, is scaled by 1/256 without loss. One that is not 0 goes to the f64 nearest to
-- n/256 (`part_of`), which is n/256 itself; and 0 to the positive zero. The constant is any float of the value named.
-- Assumes nothing.
use mathlib.Core.Path.{◌≡◌, subst, sym}
use mathlib.Core.Bool.{true, false, true≢false}
use Prim.Native.Nat.{ℕ, zero, suc, ◌*◌, ◌^◌, ◌<◌}
use native.Mathlib.Nat.{zero-mul, eq_of_mul-eq-mul_right}
use native.Mathlib.Omega.{arith}
use lib.IntN.{pos}
use lib.Dec.{lit<}
use lib.Ieee.{Float, nan, inf, fin, binary64, up, down, size, odd, units, mul, of_int, round}
use lib.Ieee.Fits.{down_pos}
use lib.Ieee.Exact.{HasValue, round_exact}
use Rattle.rules.specs.Millimetres.{word_64, FigureWord}
use Rattle.rules.proofs.FloatWord.{part_of}
use Rattle.rules.proofs.Millimetres.{figure_float, figure_value, value_figure}

-- a float of no size has none, whatever it is counted in
no_size : (v : Float) (c : ℕ) → 0 < c → HasValue v false 0 c → HasValue v false 0 256
no_size nan c some h = absurd h
no_size (inf s) c some h = absurd h
no_size (fin s m e) c some h =
    let none : m * up e ≡ 0 = eq_of_mul-eq-mul_right c some (m * up e) 0 (omega (arith, h.1)) in
    (h.0, omega arith)

-- and 0 is the positive zero
zero_scaled : (step : Float) → HasValue step false 1 256
    → HasValue (mul binary64 (of_int binary64 (pos 0)) step) false 0 256
unfolding mul of_int round size units odd
zero_scaled nan s = absurd s
zero_scaled (inf t) s = absurd s
zero_scaled (fin true m e) s = absurd (true≢false s.0)
zero_scaled (fin false m e) s =
    let c = 1 * down e in
    let some : 0 < c = omega (arith, down_pos e) in
    let none : 0 * 1 * (m * up e) ≡ 0 = omega arith in
    let nothing : HasValue (round binary64 false 0 c) false 0 c =
    round_exact binary64 false 0 c 0 0 some (lit< tt) (lit< tt) (sym (zero-mul c)) in
    subst (λ (k : ℕ). HasValue (round binary64 false k c) false 0 256) (sym none)
    (no_size (round binary64 false 0 c) c some nothing)

-- so the product has the figure's word
pub scaled : (n : ℕ) (step : Float) → n < 2 ^ 53 → HasValue step false 1 256
    → FigureWord (word_64 (mul binary64 (of_int binary64 (pos n)) step)) n
scaled zero step small s = value_figure _ 0 small (zero_scaled step s)
scaled (suc n) step small s =
    subst (λ (x : Float). FigureWord (word_64 x) (suc n))
    (sym (part_of binary64 (suc n) 256 step (omega arith) (lit< tt) (omega arith) s))
    (value_figure (figure_float (suc n)) (suc n) small (figure_value small))
