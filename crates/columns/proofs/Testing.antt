-- The test of bytes in one row: the greatest of the bytes, folded from 0, is not below any of them, and it is one of
-- them where it is not 0. And in a band: a byte above 1 stands in a row whose greatest byte is above 1. Assumes nothing.
use mathlib.Core.Path.{◌≡◌, refl, ◌∙◌, sym, subst}
use mathlib.Core.Logic.{◌≢◌, by_cases}
use mathlib.Core.Bool.{Bool, true, false, true≢false}
use mathlib.Core.List.{List, [], ◌∷◌}
use Prim.Native.Nat.{ℕ, zero, suc, ◌+◌, ◌-◌, ◌*◌, ◌≤◌, ◌<◌, max, zero-le}
use native.Mathlib.Nat.{le_refl}
use native.Mathlib.Decide.{ℕ_discrete}
use native.Mathlib.Omega.{arith}
use lib.ListN.{length, get_or, take, drop, length-take, length-drop}
use lib.Seq.{get_or-take, get_or-drop}
use Rattle.std.specs.Bool.{MatchBool}
use Rattle.std.specs.List.{fold, range_with_len, HoldsAt, AllWithin}
use Rattle.std.proofs.lemmas.List.FromFn.{length-range_with_len, get_or-range_with_len}
use Rattle.columns.specs.Bands.{BadBand}
use Rattle.columns.specs.Rows.{Most}

-- the greatest of m and some bytes is not below m
from_start : (m : ℕ) (bytes : List ℕ) → m ≤ fold max m bytes
from_start m [] = le_refl m
from_start m (byte ∷ bytes) = omega (arith, from_start (max m byte) bytes)

-- nor below a byte
from_byte : (m : ℕ) (bytes : List ℕ) (k : ℕ) → get_or bytes k 0 ≤ fold max m bytes
from_byte m [] k = zero-le
from_byte m (byte ∷ bytes) zero = omega (arith, from_start (max m byte) bytes)
from_byte m (byte ∷ bytes) (suc k) = from_byte (max m byte) bytes k

-- and where it is not m, it is a byte
is_byte : (m : ℕ) (bytes : List ℕ) → fold max m bytes ≢ m →
    (k : ℕ) × (k < length bytes) × (get_or bytes k 0 ≡ fold max m bytes)
is_byte m [] n = absurd (n refl)
is_byte m (byte ∷ bytes) n =
    by_cases (ℕ_discrete (fold max (max m byte) bytes) (max m byte))
    (λ (e : fold max (max m byte) bytes ≡ max m byte). (0, omega arith, omega arith))
    (λ (o : fold max (max m byte) bytes ≢ max m byte).
    let t = is_byte (max m byte) bytes o in (suc t.0, omega (arith, t.1), t.2))

-- so it is of the bytes of the columns a up to b in the row that begins at `start`
pub most_is : {start a b r : ℕ} {picture : List ℕ} → start + b ≤ length picture →
    r ≡ fold max 0 (take (start + b - (start + a)) (drop (start + a) picture)) → Most start a b picture r
most_is {start} {a} {b} {r} {picture} fits folded =
    record {
      greatest = λ x m n.
          let at : a + (x - a) ≡ x = omega arith in
          omega (arith, folded, from_byte 0 bytes (x - a), rw at at (byte_is (x - a) (omega arith)));
      attained = λ m.
          let t = is_byte 0 bytes (omega (arith, folded)) in
          let within : a + t.0 < b = omega (arith, simp (length-take, length-drop) at t.1) in
          (a + t.0, omega arith, within, sym (byte_is t.0 within) ∙ t.2 ∙ sym folded);
    }
  where
    bytes : List ℕ
    bytes = take (start + b - (start + a)) (drop (start + a) picture)

    byte_is : (k : ℕ) → a + k < b → get_or bytes k 0 ≡ get_or picture (start + (a + k)) 0
    byte_is k l =
        let at : start + a + k ≡ start + (a + k) = omega arith in
        let within : k < start + b - (start + a) = omega arith in
        rw (get_or-take, get_or-drop, at)

-- the greatest byte of the columns a up to b in row y is above 1, or is not
abbrev pub RowBad : ℕ → ℕ → ℕ → List ℕ → ℕ → Type 0
RowBad w a b picture y = (m : ℕ) × Most (y * w) a b picture m × (1 < m)

abbrev pub RowGood : ℕ → ℕ → ℕ → List ℕ → ℕ → Type 0
RowGood w a b picture y = (m : ℕ) × Most (y * w) a b picture m × (m ≤ 1)

-- the search of the rows for a bad one is the test of the band
pub band_is : {w a b : ℕ} {picture : List ℕ} (h : ℕ) (r : Bool) →
    MatchBool r ((k : ℕ) × (k < length (range_with_len 0 h)) × HoldsAt (RowBad w a b picture) (range_with_len 0 h) k)
    (AllWithin (RowGood w a b picture) (range_with_len 0 h) 0 (length (range_with_len 0 h))) → BadBand w h a b picture r
band_is h true (k, l, bad) =
    let in_range : k < h = omega (arith, l, length-range_with_len 0 h) in
    let (m, M, far) = bad 0 in
    let (x, from, to, is) = M.attained (omega arith) in
    record {
      holds = λ _. (x, get_or (range_with_len 0 h) k 0, from, to, omega (arith, get_or-range_with_len 0 h k 0 in_range), omega (arith, is));
      passes = λ e. absurd (true≢false e);
    }
band_is {w} {a} {b} {picture} h false good =
    record {
      holds = λ e. absurd (true≢false (sym e));
      passes = λ _ x y from to l.
          let at : get_or (range_with_len 0 h) y 0 ≡ y = omega (arith, get_or-range_with_len 0 h y 0 l) in
          let (m, M, near) = subst (RowGood w a b picture) at (good y 0 zero-le (omega (arith, length-range_with_len 0 h))) in
          omega (arith, M.greatest x from to);
    }
