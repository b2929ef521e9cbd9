-- The two ways in which a call of an entry ends, and what a refusal leaves open. A refused call has the number of a row and
-- keeps what it was lent; an accepted one has 0. A refusal says nothing of the values of an accepted call, so it may be
-- said of any. Assumes nothing.
use mathlib.Core.Path.{◌≡◌, refl}
use mathlib.Core.Logic.{◌≢◌}
use mathlib.Core.List.{List}
use Prim.Native.Nat.{ℕ}
use Rattle.rules.specs.Refusals.{Row, answer}
use Rattle.rules.specs.Calls.{Call}

module _ {rows : List Row} {Kept Done : Type 0} where
  -- a call that is refused keeps everything
  pub refused_call : {n : ℕ} → n ≡ answer rows → n ≢ 0 → Kept → Call rows n Kept Done
  refused_call is some kept = record { answered = is; refused = λ _. kept; done = λ z. absurd (some z) }

  -- a call that is accepted answers 0
  pub made_call : 0 ≡ answer rows → Done → Call rows 0 Kept Done
  made_call is done = record { answered = is; refused = λ some. absurd (some refl); done = λ _. done }

  -- a call that can't have been accepted as it says may be said of any values
  pub of_any : {n : ℕ} {Other : Type 0} → (n ≡ 0 → Done → ⊥) → Call rows n Kept Done → Call rows n Kept Other
  of_any never c = record { answered = c.answered; refused = c.refused; done = λ z. absurd (never z (c.done z)) }
