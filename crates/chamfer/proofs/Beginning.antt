-- Before the scans each cell has its first word, 0 or `far`. No word is then below the closed form to every bore, since
-- the closed form between two cells of a board is below `far`; and a bore's own word is 0. Assumes nothing.
use mathlib.Core.Path.{◌≡◌, refl}
use mathlib.Core.Logic.{by_cases}
use mathlib.Core.List.{List}
use Prim.Native.Nat.{ℕ, zero, suc, ◌-◌, ◌*◌, ◌≤◌, ◌<◌, min, max}
use native.Mathlib.Nat.{mul-le-mul_right}
use native.Mathlib.Decide.{dec_lt, ℕ_discrete}
use native.Mathlib.Omega.{arith}
use lib.ListN.{length, get_or, get_or-eq_default}
use Rattle.rules.specs.Board.{cell, away, Bored}
use Rattle.rules.specs.Limits.{side_limit, weight_limit}
use Rattle.rules.specs.Measures.{Weights, chamfer}
use Rattle.rules.specs.Accepted.{Somewhere}
use Rattle.rules.proofs.Table.{Walk, start, least}
use Rattle.chamfer_turn.specs.Neighbours.{Weighed, far, Words, On, word}
use Rattle.chamfer.specs.Scans.{first_word, Begun}
use Rattle.chamfer_turn.proofs.Cells.{has_word}
use Rattle.chamfer.proofs.Bounds.{Bore, Held, Bounded}

-- no closed form within the sides reaches `far`
below_far : {d1 d2 dx dy : ℕ} → Weights d1 d2 → dx ≤ side_limit → dy ≤ side_limit → chamfer d1 d2 dx dy ≤ far
unfolding chamfer
below_far {d1} {d2} {dx} {dy} c l m =
    let slant : d2 ≤ 2 * weight_limit = omega arith in
    let a = mul-le-mul_right (min dx dy) slant in
    let s = mul-le-mul_right (max dx dy - min dx dy) c.to in
    omega arith

-- two numbers below a side are no more than the limit apart
within_limit : {n : ℕ} (a b : ℕ) → a < n → b < n → n ≤ side_limit → away a b ≤ side_limit
unfolding away
within_limit a b l m s = omega arith

-- a sound cell starts with `far`
pub sound_first : (byte : ℕ) → (byte ≡ 1 → ⊥) → first_word byte ≡ far
sound_first zero n = refl
sound_first (suc zero) n = absurd (n refl)
sound_first (suc (suc a)) n = refl

-- no first word is above `far`
first_most : (byte : ℕ) → first_word byte ≤ far
first_most byte =
    by_cases (ℕ_discrete byte 1) (λ e. rw e (omega arith)) (λ n. omega (arith, sound_first byte n))

module _ {b : Weighed} {picture words : List ℕ} (B : Begun picture words)
    (one_each : length words ≡ b.board.w * b.board.h) where
  -- the words before the scans
  pub first_words : Words b words
  first_words =
      record {
        one_each = one_each;
        most =
            λ c.
            by_cases (dec_lt c (length words)) (λ l. rw (B.first c l) (first_most (get_or picture c 0)))
            (λ n. rw (get_or-eq_default words 0 {n = c} (omega arith)) (omega arith));
      }

  -- the first word of a cell
  at_cell : {x y : ℕ} → On b x y → word b words x y ≡ first_word (get_or picture (cell b.board.w x y) 0)
  at_cell on = B.first _ (has_word first_words on)

  module _ (weights : Weights b.d1 b.d2) (some : Somewhere b.board.w b.board.h (Bored b.board.w picture)) where
    -- the bore that there is
    a_bore : Bore b picture some.0 some.1
    a_bore = record { on_board = record { column_in = some.2; row_in = some.3 }; bored = some.4 }

    -- a bore holds its own cell, and that bore every sound one
    held : (x y : ℕ) → On b x y → Held b picture x y (word b words x y)
    held x y on =
        by_cases (ℕ_discrete (get_or picture (cell b.board.w x y) 0) 1)
        (λ e.
        let home : Walk b.board.w b.board.h b.d1 b.d2 x y x y 0 = start in
        record {
          i = x;
          j = y;
          bore = record { on_board = on; bored = e };
          no_farther = rw (at_cell on, e) (least weights home);
        })
        (λ n.
        record {
          i = some.0;
          j = some.1;
          bore = a_bore;
          no_farther =
              rw (at_cell on, sound_first (get_or picture (cell b.board.w x y) 0) n)
              (below_far weights (within_limit x some.0 on.column_in some.2 b.board.sides.width_to)
              (within_limit y some.1 on.row_in some.3 b.board.sides.height_to));
        })

    -- the words before the scans are bounded
    pub begun : Bounded b picture words 0
    begun =
        record {
          never_less = held;
          never_more =
              λ i j bore x y on come. rw (come.0, come.1, at_cell bore.on_board, bore.bored) (omega arith);
        }
