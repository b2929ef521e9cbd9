-- The limits of documents 01 and 02, each in one place, and two of our own at the end. `src/lib.rt` has a constant for
-- each but the last, and `limits` there is proved to hand out these very numbers. A proof names the limit and not its
-- digits, but for the knob: 4,096 is 2^12, and its powers of two are counted as 13. Assumes nothing.
use Rattle.std.specs.Prelude.{◌≡◌, ℕ, ◌*◌, ◌^◌}
use Rattle.rules.specs.declared.LimitTable.{LimitTable}

-- "Width W and height H are each 1 to" this. Document 02, E3: "Bass boards need sides to 2,048."
abbrev pub side_limit : ℕ
side_limit = 2_048

-- "or the mark 4,294,967,295, meaning no feature": the greatest u32 word
abbrev pub mark : ℕ
mark = 4_294_967_295

-- "a cost of 0 to 1,000,000"
abbrev pub cost_limit : ℕ
cost_limit = 1_000_000

-- "kind above 3 (costs: above 1)": the greatest kind of a picture's map, and of a cost picture's
abbrev pub kind_limit : ℕ
kind_limit = 3

abbrev pub cost_kind_limit : ℕ
cost_kind_limit = 1

-- Document 02, E1: "2 (kind above 2, also in later editions)": the greatest kind of a map in slices, for ever
abbrev pub slice_kind_limit : ℕ
slice_kind_limit = 2

-- "We accept d1 from 1 to 255"
abbrev pub weight_limit : ℕ
weight_limit = 255

-- "It is a public answer for columns 0 to" this. Document 02, E3: "changeover columns end at 2,047 .."
abbrev pub column_limit : ℕ
column_limit = 2_047

-- "and values a, b of 0 to" this. Document 02, E3: ".. and its values at 17,000,000"
abbrev pub value_limit : ℕ
value_limit = 17_000_000

-- "a whole number from 1 to 4,096"
abbrev pub knob_limit : ℕ
knob_limit = 4_096

-- "clear-map slices unequal, empty or over" this. Document 02, E3: refusal 4 starts with "the clear-map length at
-- 4,194,305"
abbrev pub clear_limit : ℕ
clear_limit = 4_194_304

-- "A small program for a 64 by 64 board"
abbrev pub bench_side : ℕ
bench_side = 64

-- "or over 16,384 bytes"
abbrev pub file_limit : ℕ
file_limit = 16_384

-- Document 02, E4: "4 .. if the buffer is under 20 bytes"
abbrev pub text_bytes : ℕ
text_bytes = 20

-- What the engine along a line takes as a value. No sentence of 01 has it: it is ours, far above every true word.
abbrev pub line_limit : ℕ
line_limit = 2 ^ 50

-- What a kind that has parts lifts a difference below the side limit to is below this: ours too, and no constant of the
-- program. Kind 0 lifts to the square.
abbrev pub lift_limit : ℕ
lift_limit = side_limit * side_limit

-- the constants of `src/lib.rt`, each equal to its limit
pub record Stated (l : LimitTable) : Type 0 where
  pub side_is : l.side ≡ side_limit
  pub mark_is : l.mark ≡ mark
  pub cost_is : l.cost ≡ cost_limit
  pub kind_is : l.kind ≡ kind_limit
  pub cost_kind_is : l.cost_kind ≡ cost_kind_limit
  pub slice_kind_is : l.slice_kind ≡ slice_kind_limit
  pub weight_is : l.weight ≡ weight_limit
  pub column_is : l.column ≡ column_limit
  pub value_is : l.value ≡ value_limit
  pub knob_is : l.knob ≡ knob_limit
  pub clear_is : l.clear ≡ clear_limit
  pub bench_side_is : l.bench_side ≡ bench_side
  pub file_is : l.file ≡ file_limit
  pub text_bytes_is : l.text_bytes ≡ text_bytes
  pub line_is : l.line ≡ line_limit
