-- What the two sweeps make of one word of a column, over any features. Assumes nothing.
use Rattle.std.specs.Prelude.{◌≡◌, ◌≢◌, ℕ, ◌-◌, ◌≤◌, ◌<◌}
use Rattle.rules.specs.Limits.{mark}

-- row j is the last feature at or above row y
pub record LastAbove (Feature : ℕ → Type 0) (y j : ℕ) : Type 0 where
  pub at_or_above : j ≤ y
  pub feature : Feature j
  pub last : (j' : ℕ) → j' ≤ y → Feature j' → j' ≤ j

-- the word that the down sweep leaves in row y: that row, or the mark where there is none
pub record Above (Feature : ℕ → Type 0) (y word : ℕ) : Type 0 where
  pub named : word ≢ mark → LastAbove Feature y word
  pub empty : word ≡ mark → (j : ℕ) → j ≤ y → Feature j → ⊥

-- a step down to row y: a bored cell names its own row, any other passes on the word above it
pub record Carried (byte y above word : ℕ) : Type 0 where
  pub bored : byte ≡ 1 → word ≡ y
  pub sound : byte ≢ 1 → word ≡ above

-- A step up to row y: the word of the row below wins where it names a row below this one that is strictly nearer than
-- the word from above. The mark has no clause of its own, since it is greater than any row: above, it gives way;
-- below, it is never strictly nearer.
pub record Nearer (y above below word : ℕ) : Type 0 where
  pub not_lower : below ≤ y → word ≡ above
  pub none_above : y < below → y < above → word ≡ below
  pub strictly : y < below → above ≤ y → below - y < y - above → word ≡ below
  pub tie_or_farther : y < below → above ≤ y → y - above ≤ below - y → word ≡ above
