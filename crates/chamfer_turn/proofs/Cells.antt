-- Cells and their words: each cell has one, and a store changes the word of one cell only. Assumes nothing.
use mathlib.Core.Path.{◌≡◌, ◌∙◌}
use mathlib.Core.Logic.{by_cases}
use mathlib.Core.List.{List}
use Prim.Native.Nat.{ℕ, ◌≤◌, ◌<◌}
use native.Mathlib.Decide.{ℕ_discrete}
use lib.ListN.{length, set, length-set}
use lib.Seq.{get_or-set_same, get_or-set_other}
use Rattle.rules.specs.Board.{cell}
use Rattle.rules.proofs.Board.{cell_in, cell_inj}
use Rattle.chamfer_turn.specs.Neighbours.{Weighed, far, Words, On, word}

-- a cell of the board has a word
pub has_word : {b : Weighed} {words : List ℕ} {x y : ℕ} → Words b words → On b x y → cell b.board.w x y < length words
has_word W o = rw W.one_each (cell_in o.column_in o.row_in)

module _ {b : Weighed} {words : List ℕ} {x y v : ℕ} (W : Words b words) (here : On b x y) where
  -- after a store, what holds of the new word in its cell and of the old words in the others holds of every word
  pub each_word : (P : ℕ → ℕ → ℕ → Type 0)
      → P x y v
      → ((x' y' : ℕ) → On b x' y' → (cell b.board.w x' y' ≡ cell b.board.w x y → ⊥) → P x' y' (word b words x' y'))
      → (x' y' : ℕ)
      → On b x' y'
      → P x' y' (word b (set words (cell b.board.w x y) v) x' y')
  each_word P new old x' y' on =
      by_cases (ℕ_discrete (cell b.board.w x' y') (cell b.board.w x y))
      (λ e.
      let q = cell_inj y' y on.column_in here.column_in e in
      rw (q.0, q.1, get_or-set_same words (cell b.board.w x y) v 0 (has_word W here)) new)
      (λ other. rw (get_or-set_other words (cell b.board.w x y) (cell b.board.w x' y') v 0 other) (old x' y' on other))

  -- the words after a store of no more than `far`
  pub words_after : v ≤ far → Words b (set words (cell b.board.w x y) v)
  words_after l =
      record {
        one_each = length-set words (cell b.board.w x y) v ∙ W.one_each;
        most = λ c.
            by_cases (ℕ_discrete c (cell b.board.w x y))
            (λ e. rw (e, get_or-set_same words (cell b.board.w x y) v 0 (has_word W here)) l)
            (λ other. rw (get_or-set_other words (cell b.board.w x y) c v 0 other) (W.most c));
      }
