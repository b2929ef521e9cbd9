-- A row of a board's list that is lent and comes back. It has a word for each column. What comes back stands in the row's
-- cells; the other rows stay, and so does everything past the board. Assumes nothing.
use mathlib.Core.Path.{◌≡◌, sym, ◌∙◌, ap}
use mathlib.Core.Logic.{◌≢◌, by_cases}
use mathlib.Core.List.{List}
use Prim.Native.Nat.{ℕ, ◌+◌, ◌-◌, ◌*◌, ◌≤◌, ◌<◌}
use native.Mathlib.Nat.{mul-le-mul_right}
use native.Mathlib.Decide.{dec_lt}
use native.Mathlib.Omega.{arith}
use lib.ListN.{length, get_or}
use lib.Seq.{get_or-drop}
use borrow.Rule.Slice.PartMut.{put_mid, mid_of, drop_put, same_len_mid}
use Rattle.rules.specs.Board.{cell}
use Rattle.rules.specs.Calls.{Beyond}
use Rattle.rules.proofs.Board.{row_ends}
use Rattle.rules.proofs.Parts.{part_length, put_before, put_inside, beyond_more}

-- a row that is lent, which begins at `at`, has a word for each column
pub row_part_long : {w h y at : ℕ} (list : List ℕ) → at ≡ y * w → y < h → w * h ≤ length list
    → length (mid_of at (at + w - at) list) ≡ w
row_part_long {w} {at = at} list at_is in_column room =
    let inside = row_ends w at_is in_column in
    part_length {a = at} {e = at + w} list (omega arith) (omega arith) ∙ omega arith

module _ {w h y at : ℕ} (list part : List ℕ) (at_is : at ≡ y * w) (in_column : y < h) (room : w * h ≤ length list)
    (long : length part ≡ w) where
  -- the list after the row has come back
  abbrev written : List ℕ
  written = put_mid at (at + w - at) list part

  inside : at + w ≤ length list
  inside = omega (arith, row_ends w at_is in_column)

  -- its words stand in the row
  pub put_here : {x : ℕ} → x < w → get_or written (cell w x y) 0 ≡ get_or part x 0
  put_here {x} l =
      ap (λ n. get_or written (n + x) 0) (sym at_is)
      ∙ put_inside {a = at} (at + w - at) list part (omega (arith, inside)) (omega arith)

  -- from its end on the list is as it was
  pub put_past : Beyond (at + w) list written
  put_past =
      record {
        as_long =
            same_len_mid at (at + w - at) list part (long ∙ sym (row_part_long list at_is in_column room));
        untouched = drop_put at (at + w) list part (omega arith) inside (long ∙ omega arith);
      }

  past : (c : ℕ) → at + w ≤ c → get_or written c 0 ≡ get_or list c 0
  past c l =
      let e : at + w + (c - (at + w)) ≡ c = omega arith in
      let u = put_past.untouched in
      cc (get_or-drop (at + w) written (c - (at + w)) 0, get_or-drop (at + w) list (c - (at + w)) 0)

  -- the other rows stay
  pub put_elsewhere : {x k : ℕ} → x < w → k ≢ y → get_or written (cell w x k) 0 ≡ get_or list (cell w x k) 0
  put_elsewhere {x} {k} l other =
      by_cases (dec_lt k y)
      (λ low. put_before {a = at} (at + w - at) list part (omega (arith, inside)) (omega (arith, mul-le-mul_right w low)))
      (λ high. let more : y + 1 ≤ k = omega arith in past (cell w x k) (omega (arith, mul-le-mul_right w more)))

  -- and past the board everything does
  pub put_beyond : Beyond (w * h) list written
  put_beyond = beyond_more {n = at + w} (row_ends w at_is in_column) put_past
