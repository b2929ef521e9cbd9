-- One value is answered in one way, since a word is good for one k at most.
--
-- What opening a setting answers, by how it goes: the pitch bad, the radius bad, or both good. A setting that the rules
-- do not refuse opens, so where a value is bad the rules refuse it; one that opens they do not refuse. Assumes nothing.
use Rattle.std.proofs.Common.{◌≡◌, ℕ, Option, Some, None, true, refl, ap, arith}
use Rattle.rules.specs.declared.Setting.{Setting}
use Rattle.rules.specs.Knob.{Good, pitch_word, radius_word}
use Rattle.rules.specs.Refusals.{bad_setting}
use Rattle.rules.specs.Calls.{Opened, OpeningCall}
use Rattle.rules.proofs.Knob.{good_k_unique, setting_good, opened_good}
use Rattle.rules.proofs.Refusals.{holds_unless}
use Rattle.rules.proofs.Calls.{refused_call, made_call}
use Rattle.knob.specs.Value.{Opens}

-- what opening a value answers is pinned
pub value_pinned : (word : ℕ) (r r' : Option ℕ) → Opens word r → Opens word r' → r ≡ r'
value_pinned word (Some k) (Some k') p q = ap Some (good_k_unique p q)
value_pinned word (Some k) None p q = absurd (q k p)
value_pinned word None (Some k) p q = absurd (p k q)
value_pinned word None None p q = refl

-- a setting that does not open is refused
refused : (s : Setting) → ((a b : ℕ) → Opened s a b → ⊥) → OpeningCall s 8 0 0
refused s shut =
    let bad : bad_setting s ≡ true =
    holds_unless (bad_setting s) (λ e. let (a, b, o) = setting_good s e in shut a b o) in
    refused_call (rw bad) (λ z. omega arith) tt

-- the pitch is bad
pub pitch_bad : (s : Setting) → ((k : ℕ) → Good (pitch_word s) k → ⊥) → OpeningCall s 8 0 0
pitch_bad s bad = refused s (λ a b o. bad a o.pitch_good)

-- the radius is bad
pub radius_bad : (s : Setting) → ((k : ℕ) → Good (radius_word s) k → ⊥) → OpeningCall s 8 0 0
radius_bad s bad = refused s (λ a b o. bad b o.radius_good)

-- both are good
pub both_good : (s : Setting) {a b : ℕ} → Good (pitch_word s) a → Good (radius_word s) b → OpeningCall s 0 a b
both_good s p r =
    let o : Opened s _ _ = record { pitch_good = p; radius_good = r } in
    made_call (rw (opened_good o)) o
