-- Answers by cases: the number that the documents give each case (0 for accepted), and its values. A refusal "is its number
-- alone": its values are written 0, or the mark for the next line of a slice, and mean nothing. Assumes nothing.
use Rattle.std.specs.Prelude.{◌≡◌, ◌≢◌, false, ℕ, ℤ, pos, Float, Result, Ok, Err, Option, Some, None, MatchResult}
use Rattle.std.specs.Float.{fin}
use Rattle.rules.specs.declared.refusal.Refusal.{Refusal}
use Rattle.rules.specs.declared.refusal.Refusal.TheVariants.{Sides, Kind, Weights, Buffers, Cell, NoBore, Ends, Setting, Changeover, FileLength, OffBoard, Line, Word}
use Rattle.rules.specs.declared.kind.LineKind.{LineKind}
use Rattle.rules.specs.declared.kind.LineKind.TheVariants.{Euclid, Manhattan, Chessboard}
use Rattle.rules.specs.declared.answers.Opening.{Opening}
use Rattle.rules.specs.declared.answers.Course.{Course}
use Rattle.rules.specs.declared.answers.Reading.{Reading}
use Rattle.rules.specs.declared.answers.Slice.{Slice}
use Rattle.rules.specs.Limits.{mark}

-- the numbers of the rows
abbrev pub refusal_number : Refusal → ℕ
refusal_number Sides = 1
refusal_number Kind = 2
refusal_number Weights = 3
refusal_number Buffers = 4
refusal_number Cell = 5
refusal_number NoBore = 6
refusal_number Ends = 7
refusal_number Setting = 8
refusal_number Changeover = 9
refusal_number FileLength = 10
refusal_number OffBoard = 11
refusal_number Line = 12
refusal_number Word = 13

-- the number of an answer: 0 for accepted, or the refusal's
abbrev pub number_of : {A : Type 0} → Result A Refusal → ℕ
number_of (Ok a) = 0
number_of (Err refusal) = refusal_number refusal

-- the numbers of the kinds that have parts, and the kind with a number, or a refusal where no such kind has it
abbrev pub kind_number : LineKind → ℕ
kind_number Euclid = 0
kind_number Manhattan = 1
kind_number Chessboard = 2

abbrev pub LineKindOf : ℕ → Result LineKind Refusal → Type 0
LineKindOf n r = MatchResult r (λ kind. kind_number kind ≡ n) (λ refusal. (refusal ≡ Kind) × ((kind : LineKind) → kind_number kind ≢ n))

-- the opening: "those two whole numbers a (pitch) and b (radius), or refusal 8"
abbrev pub opening_a : Result Opening Refusal → ℕ
opening_a (Ok opening) = opening.a
opening_a (Err refusal) = 0

abbrev pub opening_b : Result Opening Refusal → ℕ
opening_b (Ok opening) = opening.b
opening_b (Err refusal) = 0

-- the changeover: a whole number, below zero too, or 9
abbrev pub changeover_at : Result ℤ Refusal → ℤ
changeover_at (Ok p) = p
changeover_at (Err refusal) = pos 0

-- the lane: "the width and the number of cells L", or the refusal
abbrev pub lane_width : Result Course Refusal → ℕ
lane_width (Ok course) = course.width
lane_width (Err refusal) = 0

abbrev pub lane_cells : Result Course Refusal → ℕ
lane_cells (Ok course) = course.cells
lane_cells (Err refusal) = 0

-- the bench file: the numbers of its three lines, or the refusal
abbrev pub bench_sites : Result Reading Refusal → ℕ
bench_sites (Ok reading) = reading.sites
bench_sites (Err refusal) = 0

abbrev pub bench_farthest : Result Reading Refusal → ℕ
bench_farthest (Ok reading) = reading.farthest
bench_farthest (Err refusal) = 0

abbrev pub bench_cell : Result Reading Refusal → ℕ
bench_cell (Ok reading) = reading.cell
bench_cell (Err refusal) = 0

-- the slice of document 02, E1: the number that stopped it, 0 for none; the number that it answers, be it of the start or of
-- a stop; the lines that it finished, and the next line. A refusal has no next line: the mark is none.
abbrev pub stop_number : Option Refusal → ℕ
stop_number None = 0
stop_number (Some refusal) = refusal_number refusal

abbrev pub slice_number : Result Slice Refusal → ℕ
slice_number (Ok slice) = stop_number slice.stop
slice_number (Err refusal) = refusal_number refusal

abbrev pub slice_finished : Result Slice Refusal → ℕ
slice_finished (Ok slice) = slice.finished
slice_finished (Err refusal) = 0

abbrev pub slice_next : Result Slice Refusal → ℕ
slice_next (Ok slice) = slice.next
slice_next (Err refusal) = mark

-- the figure of document 02, E4: a number of millimetres, or 8
abbrev pub figure_out : Result Float Refusal → Float
figure_out (Ok out) = out
figure_out (Err refusal) = fin false 0 (pos 0)

-- its text: how long it is, or the refusal
abbrev pub text_count : Result ℕ Refusal → ℕ
text_count (Ok count) = count
text_count (Err refusal) = 0
