-- Bytes put in front of a place of a list: from where they begin, the list is the bytes and what stood from that place on.
-- Assumes nothing.
use Rattle.std.specs.Prelude.{◌≡◌, List, ◌++◌, ℕ, ◌+◌, ◌*◌, ◌≤◌, length, drop}
use Rattle.rules.specs.BenchFile.{digits, line}
use Rattle.rules.specs.Calls.{BenchPrints}

-- bytes
pub record Put (end : ℕ) (bytes before after : List ℕ) (begin : ℕ) : Type 0 where
  pub begins : begin + length bytes ≡ end
  pub reads : drop begin after ≡ bytes ++ drop end before

-- the digits of a number, at most ten
pub record PutNumber (end number : ℕ) (before after : List ℕ) (begin : ℕ) : Type 0 where
  pub begins_from : end ≤ begin + 10
  pub begins_to : begin ≤ end
  pub reads : drop begin after ≡ digits 10 number (drop end before)

-- a line
pub record PutLine (end : ℕ) (word : List ℕ) (number : ℕ) (before after : List ℕ) (begin : ℕ) : Type 0 where
  pub begins_from : end ≤ begin + length word + 12
  pub begins_to : begin ≤ end
  pub reads : drop begin after ≡ line word number ++ drop end before

-- room for any answer: three words, and for each a space, at most ten digits and the line's end
abbrev pub text_room : ℕ
text_room = 5 + 8 + 4 + 3 * 12

-- the text of the answer to a file, at the end of a list
pub record TextWritten (bytes out : List ℕ) (begin : ℕ) : Type 0 where
  pub within : begin ≤ length out
  pub prints : BenchPrints bytes (drop begin out)
