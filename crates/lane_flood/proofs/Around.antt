-- The four sides of a cell hold its neighbours and nothing else, and the cells on them have rising numbers: the cell on
-- side k has the number c − w + `place w k`, and the places rise with k. Assumes nothing.
use mathlib.Core.Path.{◌≡◌, refl, ap, ◌∙◌, subst}
use mathlib.Core.Logic.{◌≢◌, by_cases}
use mathlib.Core.List.{List}
use Prim.Native.Nat.{ℕ, zero, suc, ◌+◌, ◌-◌, ◌*◌, ◌≤◌, ◌<◌}
use native.Mathlib.Nat.{le_refl, le_trans, mod-lt, mod-le, mul-mod_left, mul-mod_right, div-add-mod'}
use native.Mathlib.Decide.{ℕ_discrete}
use native.Mathlib.Omega.{arith}
use Rattle.std.proofs.Common.{Option, Some, None}
use lib.ListN.{length, get_or}
use lib.Arith.{digits_mod}
use Rattle.rules.specs.Board.{column, row}
use Rattle.rules.specs.Lane.{Neighbours}
use Rattle.rules.proofs.Lane.{right, left, down, up, neighbours_beside}
use Rattle.lane_flood.specs.declared.sides.Side.TheVariants.{Above}
use Rattle.lane_flood.specs.declared.sides.TheConstants.{SIDES}
use Rattle.lane_flood.specs.Around.{side_number, InRows, Lists, Lies, Beside}

-- lists that keep their lengths are still the lists of a flood
pub lists_kept : {w : ℕ} (words labels queue labels' queue' : List ℕ) → Lists w words labels queue
    → length labels' ≡ length labels → length queue' ≡ length queue → Lists w words labels' queue'
lists_kept words labels queue labels' queue' l a b =
    record { board = l.board; labels_long = a ∙ l.labels_long; queue_long = b ∙ l.queue_long }

-- a neighbour lies on one of the four sides
pub around : (w c q : ℕ) → 0 < w → Neighbours w c q → (k : ℕ) × (k < 4) × Lies w c k q
unfolding Lies
around w c q pos near = elim ((neighbours_beside w c q pos).0 near) [
  | right e n ↦ (2, omega arith, (e, n))
  | left e n ↦ (1, omega arith, (e, n))
  | down e ↦ (3, omega arith, e)
  | up e ↦ (0, omega arith, e)
]

-- what lies on a side is a neighbour
pub lies_near : (w c q k : ℕ) → 0 < w → Lies w c k q → Neighbours w c q
unfolding Lies
lies_near w c q zero pos l = (neighbours_beside w c q pos).1 (up l)
lies_near w c q (suc zero) pos l = (neighbours_beside w c q pos).1 (left l.0 l.1)
lies_near w c q (suc (suc zero)) pos l = (neighbours_beside w c q pos).1 (right l.0 l.1)
lies_near w c q (suc (suc (suc k))) pos l = (neighbours_beside w c q pos).1 (down l)

-- how far the cell on side k stands past the cell above
place : ℕ → ℕ → ℕ
place w zero = 0
place w (suc zero) = w - 1
place w (suc (suc zero)) = w + 1
place w (suc (suc (suc k))) = w + w

-- the cell on side k stands there
lies_place : (w c q k : ℕ) → 0 < w → Lies w c k q → q + w ≡ c + place w k
unfolding Lies place
lies_place w c q zero pos l = omega arith
lies_place w c q (suc zero) pos l = omega arith
lies_place w c q (suc (suc zero)) pos l = omega arith
lies_place w c q (suc (suc (suc k))) pos l = omega arith

-- each place is at most the next
place_next : (w k : ℕ) → 0 < w → place w k ≤ place w (suc k)
unfolding place
place_next w zero pos = omega arith
place_next w (suc zero) pos = omega arith
place_next w (suc (suc zero)) pos = omega arith
place_next w (suc (suc (suc k))) pos = le_refl _

-- the places rise with the sides
place_rising : (w j k : ℕ) → 0 < w → j ≤ k → place w j ≤ place w k
place_rising w j zero pos h = let e : j ≡ zero = omega arith in rw e (le_refl _)
place_rising w j (suc k) pos h =
    by_cases (ℕ_discrete j (suc k)) (λ e. rw e (le_refl _))
    (λ ne. le_trans (place_rising w j k pos (omega arith)) (place_next w k pos))

-- of the cells on two sides the one on the earlier side has no greater number
pub lies_rising : (w c p q j k : ℕ) → 0 < w → j ≤ k → Lies w c j p → Lies w c k q → p ≤ q
lies_rising w c p q j k pos h l m =
    omega (arith, lies_place w c p j pos l, lies_place w c q k pos m, place_rising w j k pos h)

-- the side at place k of the list of the four has the number k
pub side_at : {w n c k : ℕ} {answer : Option ℕ} → k < 4 → Beside w n c (side_number (get_or SIDES k Above)) answer
    → Beside w n c k answer
side_at {w} {n} {c} {k} {answer} h b = subst (λ i. Beside w n c i answer) (number k h) b
  where
    number : (k : ℕ) → k < 4 → side_number (get_or SIDES k Above) ≡ k
    number zero h = refl
    number (suc zero) h = refl
    number (suc (suc zero)) h = refl
    number (suc (suc (suc zero))) h = refl
    number (suc (suc (suc (suc k)))) h = absurd (omega arith)

module _ {w n : ℕ} (b : InRows w n) {c : ℕ} (c_in : c < n) where
  -- the cell above
  pub above : w ≤ c → Beside w n c 0 (Some (c - w))
  unfolding Lies
  above h = record { lies = (omega arith, omega arith); only = λ q l e. ap Some (omega arith) }

  -- no cell is above one of the first row
  pub none_above : c < w → Beside w n c 0 None
  unfolding Lies
  none_above h = record { lies = tt; only = λ q l e. absurd (omega arith) }

  -- the cell to the left
  pub to_left : column w c ≢ 0 → Beside w n c 1 (Some (c - 1))
  unfolding Lies
  to_left h =
      let more : 0 < c = omega (arith, mod-le c w) in
      record { lies = (omega arith, (omega arith, h)); only = λ q l e. ap Some (omega arith) }

  -- none is to the left of the first column
  pub none_left : column w c ≡ 0 → Beside w n c 1 None
  unfolding Lies
  none_left h = record { lies = tt; only = λ q l e. absurd (e.1 h) }

  -- the next cell's column: the next one, unless this one is the last
  column_next : column w c + 1 < w → column w (c + 1) ≡ column w c + 1
  column_next h =
      let e : row w c * w + (column w c + 1) ≡ c + 1 = omega (arith, div-add-mod' c w) in
      rw e at (digits_mod (row w c) h)

  -- after the last column a row begins
  column_last : column w c + 1 ≡ w → column w (c + 1) ≡ 0
  column_last h =
      let e : (row w c + 1) * w ≡ c + 1 = omega (arith, div-add-mod' c w) in
      rw e at (mul-mod_left (row w c + 1) w)

  -- the cell to the right, which is one, since the last cell stands in the last column
  pub to_right : column w c + 1 ≢ w → Beside w n c 2 (Some (c + 1))
  unfolding Lies
  to_right h =
      let in_row : column w c + 1 < w = omega (arith, mod-lt c b.from) in
      record {
        lies = (not_last in_row, (refl, omega (arith, column_next in_row)));
        only = λ q l e. ap Some (omega arith);
      }
    where
      -- the cell after the last is the first of a row
      end : c + 1 ≡ n → column w (c + 1) ≡ 0
      end e = rw (e, b.whole) (mul-mod_right w b.rows)

      not_last : column w c + 1 < w → c + 1 < n
      not_last h =
          by_cases (ℕ_discrete (c + 1) n) (λ e. absurd (omega (arith, column_next h, end e))) (λ ne. omega arith)

  -- none is to the right of the last column
  pub none_right : column w c + 1 ≡ w → Beside w n c 2 None
  unfolding Lies
  none_right h =
      record { lies = tt; only = λ q l e. absurd (e.1 (ap (column w) e.0 ∙ column_last h)) }

  -- the cell below
  pub below : c + w < n → Beside w n c 3 (Some (c + w))
  unfolding Lies
  below h = record { lies = (h, refl); only = λ q l e. ap Some (omega arith) }

  -- no cell is below one of the last row
  pub none_below : n ≤ c + w → Beside w n c 3 None
  unfolding Lies
  none_below h = record { lies = tt; only = λ q l e. absurd (omega arith) }
