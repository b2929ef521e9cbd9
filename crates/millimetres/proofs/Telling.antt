-- How a call ends that tells a distance, whatever stands under the root. The pitch is good for one number or for none;
-- where for none, the rules refuse it, and where for one, the root is told as an f64 or as a text. Row 4 of a text is
-- tested before. Assumes nothing.
use mathlib.Core.Path.{◌≡◌}
use mathlib.Core.Bool.{true, false}
use mathlib.Core.List.{List}
use Prim.Native.Nat.{ℕ, ◌≤◌}
use lib.Ieee.{Float}
use lib.ListN.{length}
use Rattle.rules.specs.Limits.{text_bytes}
use Rattle.rules.specs.Knob.{Good}
use Rattle.rules.specs.Refusals.{bad_pitch}
use Rattle.rules.specs.Millimetres.{word_32, word_64, Root, Told, FigureWord, Lettered, FigureOf, TextOf}
use Rattle.rules.proofs.Knob.{pitch_passes, pitch_good}
use Rattle.rules.proofs.Refusals.{holds_unless, text_bytes_good}
use Rattle.rules.proofs.Calls.{made_call}

-- a pitch that is good for no number is refused
pub shut : (word : ℕ) → ((k : ℕ) → Good word k → ⊥) → bad_pitch word ≡ true
shut word bad = holds_unless (bad_pitch word) (λ e. let (a, g) = pitch_passes word e in bad a g)

module _ {under : ℕ → ℕ} {pitch : Float} {n : ℕ} (T : Told pitch under (λ x. Root x n)) where
  -- one that is good for a number is not
  opens : bad_pitch (word_32 pitch) ≡ false
  opens = pitch_good T.pitch_good

  -- and an f64 tells the root
  pub figure_told : {out : Float} → FigureWord (word_64 out) n → FigureOf under pitch 0 out
  figure_told figure =
      made_call (rw opens)
      (record { a = T.a; pitch_good = T.pitch_good; tells = record { n = n; root = T.tells; figure = figure } })

  -- or a text, where row 4 does not hold
  pub text_told : {before after : List ℕ} {count : ℕ} → text_bytes ≤ length before → Lettered n before after count
      → TextOf under pitch before 0 count after
  text_told {before} {after} {count} room text =
      made_call (rw (text_bytes_good (length before) room, opens))
      (record { a = T.a; pitch_good = T.pitch_good; tells = record { n = n; root = T.tells; text = text } })
