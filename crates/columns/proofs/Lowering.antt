-- The down sweep, row by row. The top row is stepped to from nothing; every other row from the row over it, of which
-- nothing is written meanwhile, so each row has the last bored row at or above it when the row over it has. Assumes
-- nothing.
use mathlib.Core.Path.{◌≡◌, refl, ap, subst}
use mathlib.Core.List.{List}
use Prim.Native.Nat.{ℕ, ◌+◌, ◌-◌, ◌*◌, ◌≤◌, ◌<◌}
use native.Mathlib.Nat.{mul_comm, mul-le-mul_right, lt_of_mul-lt-mul_right, le_of_mul-le-mul_right}
use native.Mathlib.Omega.{arith}
use lib.ListN.{length, get_or, set}
use Rattle.rules.specs.Limits.{mark}
use Rattle.rules.specs.Board.{Sides, cell}
use Rattle.rules.proofs.Board.{row_ends}
use Rattle.columns.specs.Words.{Carried}
use Rattle.columns.specs.Rows.{BandRow, BandRows, Topped, Stepped, Lowered}
use Rattle.columns.proofs.Column.{top, step_down}
use Rattle.columns.proofs.Rows.{unfilled, row_more, rows_none, rows_more}

-- a cell of row y is filled from the row over it
pub stepped : (picture : List ℕ) {w start y a x v : ℕ} {before words : List ℕ} → w ≤ start → a ≤ x → x < w →
    BandRow start a x (Stepped (start - w) start y picture before) before words → start + x < length words →
    Carried (get_or picture (start + x) 0) y (get_or words (start - w + x) 0) v →
    BandRow start a (x + 1) (Stepped (start - w) start y picture before) before (set words (start + x) v)
stepped picture {w} {start} {x = x} under from inside row fits p =
    row_more row from refl fits (rw (unfilled row (start - w + x) (λ x' m e. omega arith)) at p)

-- the byte of column x in row j
abbrev byte : ℕ → List ℕ → ℕ → ℕ → ℕ
byte w picture x j = get_or picture (cell w x j) 0

-- the top row is the first of the rows
pub top_done : (picture : List ℕ) {w a b : ℕ} {before words : List ℕ} → b ≤ w → BandRow 0 a b (Topped picture) before words →
    BandRows w a b 0 1 (Lowered w picture) before words
top_done picture {w} {a} {b} {before} {words} inside row =
    let first : 0 ≡ 0 * w = omega arith in
    rows_more {c = 0} {d = 0} inside (omega arith) rows_none
    (subst (λ s. BandRow s a b (Topped picture) before words) first row)
    (λ x word l m p.
    let e : x ≡ cell w x 0 = omega arith in
    top (byte w picture x) (subst (λ k. Carried (get_or picture k 0) 0 mark word) e p))

-- the sweep has come down to row y, which begins at `start`: the rows before it are done
pub record Lowering (w h a b : ℕ) (picture before words : List ℕ) (start y : ℕ) : Type 0 where
  pub from : 1 ≤ y
  pub to : y ≤ h
  pub start_is : start ≡ y * w
  pub done : BandRows w a b 0 y (Lowered w picture) before words

module _ {w h a b start y : ℕ} {picture before words : List ℕ}
    (s : Lowering w h a b picture before words start y) where
  -- if row y begins on the board, it ends there, and so does the row over it
  pub two_rows : start < w * h → (y < h) × (w ≤ start) × (start + w ≤ w * h)
  two_rows l =
      let m : y * w < h * w = omega (arith, s.start_is, mul_comm w h) in
      let inside : y < h = lt_of_mul-lt-mul_right w m in
      (inside, omega (arith, s.start_is, mul-le-mul_right w s.from), row_ends w s.start_is inside)

  -- row y is done
  pub lowering_more : {after : List ℕ} → Sides w h → b ≤ w → start < w * h →
      BandRow start a b (Stepped (start - w) start y picture words) words after →
      Lowering w h a b picture before after (start + w) (y + 1)
  lowering_more sides inside l row =
      let more : y < h = (two_rows l).0 in
      let next : y ≡ y - 1 + 1 = omega (arith, s.from) in
      let over : start - w ≡ (y - 1) * w = omega (arith, s.start_is, ap (λ k. k * w) next) in
      record {
        from = omega arith;
        to = omega arith;
        start_is = omega (arith, s.start_is);
        done = rows_more inside (omega arith) s.done (rw (over, s.start_is) at row)
            (λ x word m n p.
            step_down (byte w picture x) next (omega (arith, sides.height_to))
            (s.done.words x (y - 1) m n (omega arith) (omega (arith, s.from))) p);
      }

  -- every row is done
  pub lowering_end : Sides w h → w * h ≤ start → BandRows w a b 0 h (Lowered w picture) before words
  lowering_end sides l =
      let m : h * w ≤ y * w = omega (arith, s.start_is, mul_comm w h) in
      let e : y ≡ h = omega (arith, s.to, le_of_mul-le-mul_right m sides.width_from) in
      rw e at s.done
