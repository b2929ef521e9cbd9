-- A column of a board filled from the top, one row a turn, in a list that holds the whole board. Assumes nothing.
use mathlib.Core.Path.{◌≡◌, refl, ◌∙◌, sym, subst}
use mathlib.Core.Logic.{◌≢◌, by_cases}
use mathlib.Core.List.{List}
use Prim.Native.Nat.{ℕ, ◌+◌, ◌<◌}
use native.Mathlib.Decide.{ℕ_discrete}
use native.Mathlib.Omega.{arith}
use lib.ListN.{length, get_or, set, length-set}
use lib.Seq.{get_or-set_same, get_or-set_other}
use Rattle.rules.specs.Board.{cell}
use Rattle.rules.proofs.Board.{cell_inj}

-- the cells of column x above row y hold what f says, and those of every other column what they held
pub record Putting (w x : ℕ) (f : ℕ → ℕ) (before now : List ℕ) (y : ℕ) : Type 0 where
  pub as_long : length now ≡ length before
  pub done : (k : ℕ) → k < y → get_or now (cell w x k) 0 ≡ f k
  pub others : (i k : ℕ) → i < w → i ≢ x → get_or now (cell w i k) 0 ≡ get_or before (cell w i k) 0

module _ {w x : ℕ} {f : ℕ → ℕ} {before : List ℕ} where
  -- one row more
  pub putting_more : {now : List ℕ} {y v : ℕ} → Putting w x f before now y → x < w → cell w x y < length before
      → v ≡ f y → Putting w x f before (set now (cell w x y) v) (y + 1)
  putting_more {now} {y} {v} P x_in h is =
      record {
        as_long = length-set now (cell w x y) v ∙ P.as_long;
        done =
            λ k l.
            by_cases (ℕ_discrete k y)
            (λ e. subst (λ j. get_or (set now (cell w x y) v) (cell w x j) 0 ≡ f j) (sym e)
            (get_or-set_same now (cell w x y) v 0 (omega (arith, P.as_long)) ∙ is))
            (λ other. get_or-set_other now (cell w x y) (cell w x k) v 0 (λ e. other (cell_inj k y x_in x_in e).1)
            ∙ P.done k (omega arith));
        others =
            λ i k l n.
            get_or-set_other now (cell w x y) (cell w i k) v 0 (λ e. n (cell_inj k y l x_in e).0) ∙ P.others i k l n;
      }
