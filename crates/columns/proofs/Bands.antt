-- A band swept down and then up has its columns' words: what the up sweep says of every picture it says of the one
-- that went down, and a word that neither sweep is to touch is as it was. The cells of a band have numbers below w·h, so
-- every word from there on is as it was. Assumes nothing.
use mathlib.Core.Path.{◌≡◌, sym, ◌∙◌}
use mathlib.Core.List.{List}
use Prim.Native.Nat.{ℕ, ◌+◌, ◌*◌, ◌≤◌, ◌<◌, zero-le}
use native.Mathlib.Nat.{le_refl}
use native.Mathlib.Omega.{arith}
use lib.ListN.{get_or, drop, length-drop}
use lib.Seq.{ext_get_or, get_or-drop}
use Rattle.rules.proofs.Board.{cell_in}
use Rattle.columns.specs.Bands.{Swept}
use Rattle.columns.specs.Rows.{BandRows, Lowered, Raised}

-- down, then up
pub swept : {w h a b : ℕ} {picture before words after : List ℕ} → BandRows w a b 0 h (Lowered w picture) before words →
    BandRows w a b 0 h (Raised w h words) words after → Swept w h a b picture before after
swept {w} {h} {picture = picture} down up =
    record {
      words = λ x y l m n.
          (up.words x y l m zero-le n).column_word picture (λ y' n'. down.words x y' l m zero-le n');
      others = λ k out.
          up.others k (λ x y l m o n e. out x y l m n e) ∙ down.others k (λ x y l m o n e. out x y l m n e);
      as_long = up.as_long ∙ down.as_long;
    }

-- a sweep of a band leaves every word past the board as it was
pub band_beyond : {w h a b : ℕ} {picture before after : List ℕ} → b ≤ w → Swept w h a b picture before after →
    drop (w * h) after ≡ drop (w * h) before
band_beyond {w} {h} {a} {b} {picture} {before} {after} l s =
    ext_get_or 0 (drop (w * h) after) (drop (w * h) before)
    (length-drop (w * h) after ∙ simp length-drop (rw s.as_long))
    (λ i m. get_or-drop (w * h) after i 0 ∙ past i ∙ sym (get_or-drop (w * h) before i 0))
  where
    past : (i : ℕ) → get_or after (w * h + i) 0 ≡ get_or before (w * h + i) 0
    past i = s.others (w * h + i) (λ x y m n o e. let in_row : x < w = omega arith in omega (arith, cell_in in_row o))

-- so does a sweep of the whole width
pub whole_width : {w h : ℕ} {picture before after : List ℕ} → Swept w h 0 w picture before after →
    drop (w * h) after ≡ drop (w * h) before
whole_width {w} s = band_beyond (le_refl w) s
