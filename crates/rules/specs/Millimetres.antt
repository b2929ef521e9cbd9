-- Document 02, E4, "millimetres on the screen": a squared distance and a pitch give a whole number N of 1/256 mm, which
-- is told as a figure, an f64, and as a text. `Figured` and `Spelled` do not know what stands under the root, so that a
-- twin needs only another number there; `FigureOf` and `TextOf` are for twins with a pitch. Assumes nothing.
use Rattle.std.specs.Prelude.{◌≡◌, false, List, [], ◌∷◌, ◌++◌, ℕ, zero, suc, ◌+◌, ◌-◌, ◌*◌, ◌/◌, ◌%◌, ◌^◌, ◌≤◌, ◌<◌, length, get_or, drop, Float}
use Rattle.std.specs.Float.{binary32, binary64}
use Rattle.std.specs.Float.Ieee.{to_bits}
use Rattle.std.specs.Float.Ieee.Exact.{HasValue}
use Rattle.rules.specs.Knob.{Good}
use Rattle.rules.specs.BenchFile.{decimal}
use Rattle.rules.specs.Refusals.{figure_rows, text_rows}
use Rattle.rules.specs.Calls.{Call, AnswerOnly}

-- the words of an f32 and of an f64. `to_bits` writes some NaN's word for every NaN; no good pitch has one of those, nor
-- has a figure.
abbrev pub word_32 : Float → ℕ
word_32 = to_bits binary32

abbrev pub word_64 : Float → ℕ
word_64 = to_bits binary64

-- "the greatest whole number such that N² ≤" x
pub record Root (x n : ℕ) : Type 0 where
  pub within : n * n ≤ x
  pub greatest : x < (n + 1) * (n + 1)

-- "(m + 1,015)·2^52 + (N − 2^m)·2^(52−m)"
abbrev pub figure_word : ℕ → ℕ → ℕ
figure_word n m = (m + 1_015) * 2 ^ 52 + (n - 2 ^ m) * 2 ^ (52 - m)

-- "else the f64 whose IEEE 754 word is .., with 2^m the greatest power of two not above N"
pub record PositiveWord (word n : ℕ) : Type 0 where
  pub m : ℕ
  pub power : 2 ^ m ≤ n
  pub greatest : n < 2 ^ (m + 1)
  pub word_is : word ≡ figure_word n m

-- "for 0 the positive zero", whose word is 0
abbrev pub FigureWord : ℕ → ℕ → Type 0
FigureWord word zero = word ≡ 0
FigureWord word (suc n) = PositiveWord word (suc n)

-- "an f64 whose value is exactly N/256", and positive: what the word of a figure means (`figure_exactly`)
abbrev pub FigureValue : Float → ℕ → Type 0
FigureValue out n = HasValue out false n 256

-- the last so many decimal digits of a number, as bytes, with zeros in front where it has fewer
abbrev pub last_digits : ℕ → ℕ → List ℕ → List ℕ
last_digits zero n after = after
last_digits (suc count) n after = last_digits count (n / 10) ((48 + n % 10) ∷ after)

-- "whole digits (no needless leading zero, `0` for none), a point and eight digits": 1/256 is 390,625 hundred-millionths
abbrev pub millimetre_text : ℕ → List ℕ
millimetre_text n = decimal (n / 256) ++ (46 ∷ last_digits 8 (n % 256 * 390_625) [])

-- What such a text says to one who reads it. Its bytes are digits:
abbrev pub Digits : List ℕ → Type 0
Digits [] = Unit {0}
Digits (b ∷ bs) = (48 ≤ b) × (b ≤ 57) × Digits bs

-- they write a number, read from the left, behind what was read before:
abbrev pub read : ℕ → List ℕ → ℕ
read before [] = before
read before (b ∷ bs) = read (before * 10 + (b - 48)) bs

-- and around the point they say a whole number of hundred-millionths of a millimetre
pub record Says (text : List ℕ) (hundred_millionths : ℕ) : Type 0 where
  pub whole : List ℕ
  pub tail : List ℕ
  pub text_is : text ≡ whole ++ (46 ∷ tail)
  pub whole_digits : Digits whole
  pub some_digit : 1 ≤ length whole
  pub no_leading_zero : 2 ≤ length whole → 49 ≤ get_or whole 0 0
  pub tail_digits : Digits tail
  pub tail_eight : length tail ≡ 8
  pub says : read 0 whole * 10 ^ 8 + read 0 tail ≡ hundred_millionths

-- a figure tells the root of x
pub record Figured (x : ℕ) (out : Float) : Type 0 where
  pub n : ℕ
  pub root : Root x n
  pub figure : FigureWord (word_64 out) n

-- bytes that begin with the text of N, and its length: "Bytes after the text are untouched."
pub record Lettered (n : ℕ) (before after : List ℕ) (count : ℕ) : Type 0 where
  pub count_is : count ≡ length (millimetre_text n)
  pub after_is : after ≡ millimetre_text n ++ drop count before

-- a text tells the root of x
pub record Spelled (x : ℕ) (before after : List ℕ) (count : ℕ) : Type 0 where
  pub n : ℕ
  pub root : Root x n
  pub text : Lettered n before after count

-- a pitch that opens to a, and what is told of the number under the root that a gives
pub record Told (pitch : Float) (under : ℕ → ℕ) (Tells : ℕ → Type 0) : Type 0 where
  pub a : ℕ
  pub pitch_good : Good (word_32 pitch) a
  pub tells : Tells (under a)

-- a figure's call, and a text's, by the number under the root
abbrev pub FigureOf : (ℕ → ℕ) → Float → ℕ → Float → Type 0
FigureOf under pitch number out =
    AnswerOnly (figure_rows (word_32 pitch)) number (Told pitch under (λ x. Figured x out))

abbrev pub TextOf : (ℕ → ℕ) → Float → List ℕ → ℕ → ℕ → List ℕ → Type 0
TextOf under pitch before number count after =
    Call (text_rows (word_32 pitch) (length before)) number (after ≡ before)
    (Told pitch under (λ x. Spelled x before after count))

-- "16·d·a²"
abbrev pub centre_under : ℕ → ℕ → ℕ
centre_under d a = 16 * d * (a * a)

-- the figure's entry
abbrev pub FigureCall : ℕ → Float → ℕ → Float → Type 0
FigureCall d pitch number out = FigureOf (centre_under d) pitch number out

-- the text's entry
abbrev pub TextCall : ℕ → Float → List ℕ → ℕ → ℕ → List ℕ → Type 0
TextCall d pitch before number count after = TextOf (centre_under d) pitch before number count after
