-- The lane entry, put together. What a lane call has that passed its tests, a kind 0 map asks, so the map is made. Its
-- first W·H distance words are the words of the cells. The labels stand in the first W·H scratch words, which
-- the map left at zero, and are zero again at the end: the scratch is as the map left it. The path's first W·H words
-- come back with the best lane and marks. Assumes nothing.
use mathlib.Core.Path.{◌≡◌, refl, ◌∙◌, sym, ap, subst}
use mathlib.Core.List.{List, ◌++◌}
use Prim.Native.Nat.{ℕ, ◌*◌, ◌≤◌, ◌<◌}
use native.Mathlib.Nat.{mul-le-mul_left}
use native.Mathlib.Omega.{arith}
use lib.ListN.{length, take, drop, take-append-drop, get_or-append}
use lib.Seq.{length-take-le, get_or-take, take-append-le, ext_get_or}
use Rattle.rules.specs.Board.{cell, Sides}
use Rattle.rules.specs.Accepted.{PictureAccepted, LaneAccepted}
use Rattle.rules.specs.Tie.{MapWord}
use Rattle.rules.specs.Calls.{buffers, PictureAfter, LaneAfter}
use Rattle.rules.proofs.Board.{cell_in, cells_few}
use Rattle.rules.proofs.Parts.{front_beyond}
use Rattle.lane_flood.specs.Around.{InRows, Lists}
use Rattle.lane_flood.specs.Labelling.{at}
use Rattle.lane_search.specs.Course.{Laid}

-- the cells of the board lie in rows of its width
pub board_rows : {w h : ℕ} → Sides w h → InRows w (w * h)
board_rows {w} {h} s =
    record {
      rows = h;
      whole = refl;
      from = s.width_from;
      across = omega (arith, mul-le-mul_left w s.height_from);
      to = cells_few s;
    }

-- the first words of a list that come back as they were, if they hold the same
pub as_after : (n : ℕ) (list part : List ℕ) → n ≤ length list → length part ≡ n
    → ((k : ℕ) → k < n → at part k ≡ at list k) → part ++ drop n list ≡ list
as_after n list part room long same =
    ap (λ l. l ++ drop n list)
    (ext_get_or 0 part (take n list) (long ∙ sym (length-take-le n list room))
    (λ i h. same i (omega arith) ∙ sym (get_or-take n list i 0 (omega arith))))
    ∙ take-append-drop n list

-- a lane call that has passed its tests has what a kind 0 map asks
pub map_accepted : {w h : ℕ} {picture : List ℕ} {from to distances sites scratch path : ℕ}
    → LaneAccepted w h picture from to distances sites scratch path → PictureAccepted w h 0 0 0 picture distances sites scratch
map_accepted A =
    record {
      sides = A.sides;
      kind_in = omega arith;
      weights = λ e. absurd (omega arith);
      lent = A.lent;
      bytes = A.bytes;
      bored = A.bored;
    }

module _ (w h : ℕ) (picture : List ℕ) (from to : ℕ) where
  module _ {distances sites scratch distances' sites' scratch' : List ℕ} (path : List ℕ)
      (A : LaneAccepted w h picture from to (length distances) (length sites) (length scratch) (length path))
      (M : PictureAfter w h 0 0 0 picture (buffers distances sites scratch) (buffers distances' sites' scratch')) where
    -- the lists are long enough for the board
    pub words_room : w * h ≤ length distances'
    words_room = omega (arith, A.lent.distances_from, M.distances_beyond.as_long)

    pub scratch_room : w * h ≤ length scratch'
    scratch_room = omega (arith, A.lent.scratch_from, M.scratch_beyond.as_long)

    -- what the best lane asks
    pub askable : Lists w (take (w * h) distances') (take (w * h) scratch') (take (w * h) path)
        × (from < length (take (w * h) distances')) × (to < length (take (w * h) distances'))
    askable =
        let words_long = length-take-le (w * h) distances' words_room in
        let board : InRows w (length (take (w * h) distances')) = rw words_long (board_rows A.sides) in (
          record {
            board = board;
            labels_long = length-take-le (w * h) scratch' scratch_room ∙ sym words_long;
            queue_long = length-take-le (w * h) path A.path_from ∙ sym words_long;
          },
          omega (arith, words_long, A.from_in),
          omega (arith, words_long, A.to_in),
        )

    -- what the entry leaves
    module _ {labels part : List ℕ} {broad cells : ℕ}
        (L : Laid w (length (take (w * h) distances')) (at (take (w * h) distances')) from to broad cells labels part)
        (labels_long : length labels ≡ length (take (w * h) scratch'))
        (part_long : length part ≡ length (take (w * h) path)) where
      -- the best lane, on the board
      abbrev laid : Laid w (w * h) (at (take (w * h) distances')) from to broad cells labels part
      laid =
          subst (λ n. Laid w n (at (take (w * h) distances')) from to broad cells labels part)
          (length-take-le (w * h) distances' words_room) L

      -- the path's part is as long as the board
      board_long : length part ≡ w * h
      board_long = part_long ∙ length-take-le (w * h) path A.path_from

      -- the lane's cells are those of the part
      cells_of : take cells (part ++ drop (w * h) path) ≡ take cells part
      cells_of = take-append-le cells part (drop (w * h) path) (omega (arith, laid.cells_in, board_long))

      -- the scratch is as the map left it
      scratch_back : labels ++ drop (w * h) scratch' ≡ scratch'
      scratch_back =
          as_after (w * h) scratch' labels scratch_room (labels_long ∙ length-take-le (w * h) scratch' scratch_room)
          (λ k l. laid.cleared k l ∙ sym (M.zeroed k (omega arith)))

      -- all of it
      pub lane_after : LaneAfter w h picture from to (buffers distances sites scratch) path broad cells
          (buffers distances' sites' (labels ++ drop (w * h) scratch')) (part ++ drop (w * h) path)
      lane_after =
          record {
            found =
                record {
                  word = at (take (w * h) distances');
                  word_least =
                      λ x y in_row in_column.
                      subst (MapWord 0 0 0 w h picture x y)
                      (sym (get_or-take (w * h) distances' (cell w x y) 0 (cell_in in_row in_column)))
                      (M.words x y in_row in_column);
                  best = rw cells_of (laid.best h refl);
                  width_is = rw cells_of (laid.width_is h refl);
                };
            cells_is = ap length cells_of ∙ length-take-le cells part (omega (arith, laid.cells_in, board_long));
            marked =
                λ k l m. get_or-append part (drop (w * h) path) 0 k (omega (arith, board_long)) ∙ laid.marked k l m;
            path_beyond = front_beyond path part A.path_from board_long;
            map_after = rw scratch_back M;
          }
