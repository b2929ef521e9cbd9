-- "The knob": two f32 values, opened to two whole numbers, and the clear map's rule. What is good is said twice, as the
-- paper says it: of the value, and of its IEEE 754 word; the calls go by the word. Assumes nothing.
use Rattle.std.specs.Prelude.{◌≡◌, Bool, true, false, cond, ℕ, ◌+◌, ◌-◌, ◌*◌, ◌^◌, ◌≤◌, ◌<◌, leb, Float}
use Rattle.std.specs.Float.{nan, inf, fin, binary32}
use Rattle.std.specs.Float.Ieee.{up, down, to_bits}
use Rattle.rules.specs.Limits.{knob_limit}
use Rattle.rules.specs.declared.Setting.{Setting}

-- the words of a setting's two values. `to_bits` writes some NaN's word for every NaN; no good value has one of those.
abbrev pub pitch_word : Setting → ℕ
pitch_word s = to_bits binary32 s.pitch

abbrev pub radius_word : Setting → ℕ
radius_word s = to_bits binary32 s.radius

-- the value times 64 is k. A finite value is m·2^e with a sign (true: negative), and 2^e is the fraction up e / down e;
-- both sides are taken times down e
abbrev pub Scaled : Float → ℕ → Type 0
Scaled nan k = ⊥
Scaled (inf s) k = ⊥
Scaled (fin false m e) k = m * up e * 64 ≡ k * down e
Scaled (fin true m e) k = m * up e * 64 + k * down e ≡ 0

-- "Each is good when the value, multiplied by 64, is a whole number from 1 to 4,096."
pub record GoodFor (v : Float) (k : ℕ) : Type 0 where
  pub from : 1 ≤ k
  pub to : k ≤ knob_limit
  pub scaled : Scaled v k

-- "(m + 121)·2^23 + (k − 2^m)·2^(23−m)"
abbrev pub good_word : ℕ → ℕ → ℕ
good_word k m = (m + 121) * 2 ^ 23 + (k - 2 ^ m) * 2 ^ (23 - m)

-- "Over whole numbers: the good value for k is the f32 whose IEEE 754 word is .., with 2^m the greatest power of two not
-- above k."
pub record Good (word k : ℕ) : Type 0 where
  pub from : 1 ≤ k
  pub to : k ≤ knob_limit
  pub m : ℕ
  pub power : 2 ^ m ≤ k
  pub greatest : k < 2 ^ (m + 1)
  pub word_is : word ≡ good_word k m

-- "whose every byte becomes 1 where d·a² ≥ b², else 0"
abbrev pub clear_test : ℕ → ℕ → ℕ → Bool
clear_test a b d = leb (b * b) (d * (a * a))

abbrev pub clear_byte : ℕ → ℕ → ℕ → ℕ
clear_byte a b d = cond (clear_test a b d) 1 0
