-- What the lines of a call leave before the words after the cells' words are set to zero. Assumes nothing.
use Rattle.std.specs.Prelude.{◌≡◌, List, ℕ, ◌+◌, ◌-◌, ◌*◌, ◌≤◌, ◌<◌, get_or}
use Rattle.rules.specs.Refusals.{scratch_words}
use Rattle.rules.specs.Calls.{Buffers, buffers, Beyond}
use Rattle.rules.specs.Slices.{allowed, SliceAfter}

-- the scratch with the 2W+2H words after the cells' words set to zero
pub record TailZeroed (w h : ℕ) (before after : List ℕ) : Type 0 where
  pub cells_kept : (k : ℕ) → k < w * h → get_or after k 0 ≡ get_or before k 0
  pub zero : (k : ℕ) → w * h ≤ k → k < scratch_words w h → get_or after k 0 ≡ 0
  pub beyond : Beyond (scratch_words w h) before after

-- the lines from `line` up to `end`, or up to the first that stops: with that set to zero, they are what a call leaves whose
-- budget allows these lines
pub record LinesDone (w h kind line end : ℕ) (picture : List ℕ) (before : Buffers) (number next : ℕ) (after : Buffers) : Type 0 where
  pub from_in : line ≤ next
  pub to_in : next ≤ end
  pub zeroed : (budget : ℕ) (scratch : List ℕ) → end ≡ line + allowed w h line budget
      → TailZeroed w h after.scratch scratch
      → SliceAfter w h kind line budget picture before number (next - line) next
      (buffers after.distances after.sites scratch)
