-- The up sweep, row by row. The last row has its column words, since nothing lies below it. Every other row still has
-- what the down sweep left when its turn comes, and the row below has its column words, so a step up gives it its
-- own. What the picture was does not matter to the steps, so it is said of every picture that the down sweep can have
-- gone down. Assumes nothing.
use mathlib.Core.Path.{◌≡◌, refl, ap}
use mathlib.Core.List.{List}
use Prim.Native.Nat.{ℕ, ◌+◌, ◌-◌, ◌*◌, ◌≤◌, ◌<◌}
use native.Mathlib.Nat.{le_refl, mul-le-mul_left, lt_of_mul-lt-mul_right}
use native.Mathlib.Omega.{arith}
use lib.ListN.{length, get_or, set}
use Rattle.rules.specs.Board.{Sides, cell}
use Rattle.rules.proofs.Board.{cell_inj}
use Rattle.columns.specs.Words.{Nearer}
use Rattle.columns.specs.Rows.{BandRow, BandRows, Lifted, Raised}
use Rattle.columns.proofs.Column.{bottom, step_up}
use Rattle.columns.proofs.Rows.{unfilled, row_more, rows_more}

-- a cell of row y is filled from its own word and the row below
pub lifted : {w start y a x v : ℕ} {before words : List ℕ} → a ≤ x → x < w →
    BandRow start a x (Lifted start (start + w) y before) before words → start + x < length words →
    Nearer y (get_or words (start + x) 0) (get_or words (start + w + x) 0) v →
    BandRow start a (x + 1) (Lifted start (start + w) y before) before (set words (start + x) v)
lifted {w} {start} {x = x} from inside row fits n =
    row_more row from refl fits
    (rw (unfilled row (start + x) (λ x' m e. omega arith), unfilled row (start + w + x) (λ x' m e. omega arith)) at n)

-- the sweep has come up to row y, which begins at `start`: the rows from it on are done
pub record Raising (w h a b : ℕ) (before words : List ℕ) (start y : ℕ) : Type 0 where
  pub inside : y < h
  pub start_is : start ≡ y * w
  pub done : BandRows w a b y h (Raised w h before) before words

-- the last row needs no step
pub raising_start : {w h a b : ℕ} {before : List ℕ} → Sides w h → Raising w h a b before before ((h - 1) * w) (h - 1)
raising_start sides =
    record {
      inside = omega (arith, sides.height_from);
      start_is = refl;
      done = record {
        words = λ x y l m o p. record { column_word = λ picture all. bottom (omega arith) (all y p) };
        others = λ k out. refl;
        as_long = refl;
      };
    }

module _ {w h a b start y : ℕ} {before words : List ℕ} (s : Raising w h a b before words start y) where
  -- a row that begins past the first cell has a row over it
  pub row_over : 0 < start → 0 < y
  row_over l = lt_of_mul-lt-mul_right w (omega (arith, s.start_is))

  module _ (sides : Sides w h) (columns_in : b ≤ w) (under : 0 < start) where
    -- y is the row after the one over it
    next : y ≡ y - 1 + 1
    next = omega (arith, row_over under)

    -- and begins a width later
    over : start ≡ (y - 1) * w + w
    over = omega (arith, s.start_is, ap (λ k. k * w) next)

    -- the row over y has what the down sweep left
    kept : {x : ℕ} → x < b → get_or words (cell w x (y - 1)) 0 ≡ get_or before (cell w x (y - 1)) 0
    kept {x} m =
        s.done.others (cell w x (y - 1))
        (λ x' y' l' m' o p e.
        let same = (cell_inj (y - 1) y' (omega arith) (omega arith) e).1 in omega (arith, row_over under))

    -- so a step up leaves the column's word in it
    raised : {x word : ℕ} → a ≤ x → x < b → Lifted ((y - 1) * w) (y * w) (y - 1) words x word →
        Raised w h before x (y - 1) word
    raised {x} l m n =
        record {
          column_word = λ picture all.
              step_up next s.inside (omega (arith, sides.height_to))
              (rw (kept m) (all (y - 1) (omega (arith, s.inside))))
              ((s.done.words x y l m (le_refl y) s.inside).column_word picture all) n;
        }

    -- the row over y is done
    pub raising_more : {after : List ℕ} →
        BandRow (start - w) a b (Lifted (start - w) (start - w + w) (y - 1) words) words after →
        Raising w h a b before after (start - w) (y - 1)
    raising_more row =
        let low : start - w ≡ (y - 1) * w = omega (arith, over) in
        let high : start - w + w ≡ y * w = omega (arith, over, s.start_is) in
        record {
          inside = omega (arith, s.inside);
          start_is = low;
          done = rows_more columns_in (omega (arith, row_over under)) s.done (rw (high, low) at row)
              (λ x word l m n. raised l m n);
        }

  -- every row is done
  pub raising_end : Sides w h → start ≤ 0 → BandRows w a b 0 h (Raised w h before) before words
  raising_end sides l =
      let e : y ≡ 0 = omega (arith, s.start_is, mul-le-mul_left y sides.width_from) in
      rw e at s.done
