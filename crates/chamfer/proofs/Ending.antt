-- After both scans every word is at least the closed form to some bore and at most the closed form to every bore, so it
-- is the map word. Assumes nothing.
use mathlib.Core.Path.{◌≡◌, sym, ◌∙◌}
use mathlib.Core.List.{List}
use Prim.Native.Nat.{ℕ, ◌*◌, ◌≤◌}
use native.Mathlib.Nat.{le_antisymm}
use native.Mathlib.Omega.{arith}
use lib.ListN.{length, drop_of_length-le}
use Rattle.rules.specs.Measures.{chamfer_kind}
use Rattle.rules.specs.Tie.{MapWord}
use Rattle.chamfer_turn.specs.Neighbours.{Weighed, On, word}
use Rattle.chamfer.specs.Scans.{Scanned}
use Rattle.chamfer.proofs.Bounds.{Bounded}

-- after both scans each word is the least of the closed form
map_word : {b : Weighed} {picture words : List ℕ} {x y : ℕ}
    → Bounded b picture words 2
    → On b x y
    → MapWord chamfer_kind b.d1 b.d2 b.board.w b.board.h picture x y (word b words x y)
map_word {x} {y} R on =
    let held = R.never_less x y on in
    record {
      i = held.i;
      j = held.j;
      column_in = held.bore.on_board.column_in;
      row_in = held.bore.on_board.row_in;
      feature = held.bore.bored;
      attained = le_antisymm held.no_farther (R.never_more held.i held.j held.bore x y on tt);
      least = λ i j i_in j_in bored.
          R.never_more i j (record { on_board = record { column_in = i_in; row_in = j_in }; bored = bored }) x y on tt;
    }

-- the map is made in the board's words, and there are no others
pub mapped : {b : Weighed} {picture before after : List ℕ}
    → Bounded b picture after 2
    → length after ≡ b.board.w * b.board.h
    → length before ≡ b.board.w * b.board.h
    → Scanned b.board.w b.board.h b.d1 b.d2 picture before after
mapped {b} {before} {after} R e f =
    let after_to : length after ≤ b.board.w * b.board.h = omega arith in
    let before_to : length before ≤ b.board.w * b.board.h = omega arith in
    record {
      words = λ x y x_in y_in. map_word R (record { column_in = x_in; row_in = y_in });
      as_long = e ∙ sym f;
      untouched = drop_of_length-le after after_to ∙ sym (drop_of_length-le before before_to);
    }
