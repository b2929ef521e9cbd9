-- "A refusal is its number alone": a word that a C function answers through a pointer keeps its value on a refusal. What it
-- holds where the number is 0 is the entry's call to say. Assumes nothing.
use Rattle.std.specs.Prelude.{◌≡◌, ◌≢◌, List, ℕ}
use Rattle.rules.specs.Calls.{Buffers}
use Rattle.rules.specs.Slices.{SliceCall}

pub record Out {A : Type 0} (number : ℕ) (before after : A) : Type 0 where
  pub kept : number ≢ 0 → after ≡ before

-- Document 02, E1: "a stop answers more than a number". The number of a slice is its start's or a stop's. Its two words keep
-- their values where the start refuses; else they are what the call says, a stop's too.
pub record SliceTold (w h kind line budget : ℕ) (picture : List ℕ) (before : Buffers) (finished next number finished' next' : ℕ) (after : Buffers) : Type 0 where
  pub start : ℕ
  pub call : SliceCall w h kind line budget picture before start number finished' next' after
  pub finished_out : Out start finished finished'
  pub next_out : Out start next next'
