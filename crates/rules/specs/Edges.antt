-- Document 01's rows at their edges, and those of document 02's E1 and E4, as one list of values of one type, and what
-- each says of the rules. Every limit is the documents' own, in digits, and never a name of `Limits`: one that is wrong
-- there and in the constants alike shows here; roots and words are worked out by the documents' formulas. No row tested
-- before the one that a call answers holds of it; a later one may, as 6 does of a board of side 0, which has no bore.
-- `proofs/Edges.antt` proves the claim `Met` of the list. Assumes nothing.
use Rattle.std.specs.Prelude.{◌≡◌, true, false, List, [], ◌∷◌, ◌++◌, ℕ, pos, negsuc, Float, replicate}
use Rattle.std.specs.Float.{nan, inf, fin}
use Rattle.rules.specs.declared.Setting.{Setting}
use Rattle.rules.specs.Limits.{mark}
use Rattle.rules.specs.Board.{cell}
use Rattle.rules.specs.Refusals.{Row, answer, scratch_words, picture_rows, cost_rows, lane_rows}
use Rattle.rules.specs.Refusals.{clear_rows, opening_rows, changeover_rows, file_rows, slice_rows, figure_rows}
use Rattle.rules.specs.Refusals.{text_rows}
use Rattle.rules.specs.Knob.{Good}
use Rattle.rules.specs.Calls.{OpeningCall}
use Rattle.rules.specs.Millimetres.{word_32, Root, figure_word, centre_under}
use Rattle.rules.specs.Slices.{column_rows, row_rows, line_number}

pub data Edge : Type 0 where
  -- what the rules compute, and what the documents say
  number : ℕ → ℕ → Edge
  -- the rows of a call, and the number that it answers
  call : List Row → ℕ → Edge
  -- pitch and radius; the two whole numbers that they open to
  opening : Float → Float → ℕ → ℕ → Edge
  -- pitch and radius, refused by the opening and by a clear map of one word
  no_opening : Float → Float → Edge
  -- a pitch by itself; the whole number that it opens to
  good_pitch : Float → ℕ → Edge
  -- a pitch, refused by the figure and by a text of 20 bytes
  no_pitch : Float → Edge
  -- what stands under the root, and the root
  whole_root : ℕ → ℕ → Edge

-- a setting of two values
abbrev pub setting : Float → Float → Setting
setting pitch radius = record { pitch = pitch; radius = radius }

-- what an edge says of the rules
abbrev pub EdgeHolds : Edge → Type 0
EdgeHolds (number computed stated) = computed ≡ stated
EdgeHolds (call rows n) = answer rows ≡ n
EdgeHolds (opening pitch radius a b) = OpeningCall (setting pitch radius) 0 a b
EdgeHolds (no_opening pitch radius) =
    (answer (opening_rows (setting pitch radius)) ≡ 8) × (answer (clear_rows (setting pitch radius) 1 1) ≡ 8)
EdgeHolds (good_pitch p a) = Good (word_32 p) a × (answer (figure_rows (word_32 p)) ≡ 0)
EdgeHolds (no_pitch p) = (answer (figure_rows (word_32 p)) ≡ 8) × (answer (text_rows (word_32 p) 20) ≡ 8)
EdgeHolds (whole_root x n) = Root x n

-- the one claim: every edge of a list holds
abbrev pub Met : List Edge → Type 0
Met [] = Unit {0}
Met (e ∷ es) = EdgeHolds e × Met es

-- the mark; on a board of 3 by 2 the numbers of (2, 1) and (1, 0), and the scratch words, 3·2 + 2·3 + 2·2
abbrev pub number_edges : List Edge
number_edges =
    number mark 4_294_967_295 ∷ number (cell 3 2 1) 5 ∷ number (cell 3 1 0) 1 ∷ number (scratch_words 3 2) 16 ∷ []

-- a map of a board whose cells are all bored, of costs that are all 0, a lane of that board from cell 0 to itself, and the
-- start of a slice at line 0: W, H, their cells and scratch words
abbrev pub plain_map : ℕ → ℕ → ℕ → ℕ → List Row
plain_map w h n scratch = picture_rows w h 0 0 0 (replicate n 1) n n scratch

abbrev pub plain_costs : ℕ → ℕ → ℕ → ℕ → List Row
plain_costs w h n scratch = cost_rows w h 0 (replicate n 0) n n scratch

abbrev pub plain_lane : ℕ → ℕ → ℕ → ℕ → List Row
plain_lane w h n scratch = lane_rows w h (replicate n 1) 0 0 n n scratch n

abbrev pub plain_slice : ℕ → ℕ → ℕ → ℕ → List Row
plain_slice w h n scratch = slice_rows w h 0 0 n n n scratch

-- 1: sides 0, 1, 2,048 and 2,049
abbrev pub side_edges : (ℕ → ℕ → ℕ → ℕ → List Row) → List Edge
side_edges plain =
    call (plain 0 1 0 2) 1
    ∷ call (plain 1 0 0 2) 1
    ∷ call (plain 1 1 1 5) 0
    ∷ call (plain 2_048 1 2_048 6_146) 0
    ∷ call (plain 1 2_048 2_048 6_146) 0
    ∷ call (plain 2_049 1 2_049 6_149) 1
    ∷ call (plain 1 2_049 2_049 6_149) 1
    ∷ []

-- a map of one bored cell: kind and weights; costs and a slice of one cell: kind
abbrev pub of_kind : ℕ → ℕ → ℕ → List Row
of_kind kind d1 d2 = picture_rows 1 1 kind d1 d2 (1 ∷ []) 1 1 5

abbrev pub costs_of_kind : ℕ → List Row
costs_of_kind kind = cost_rows 1 1 kind (0 ∷ []) 1 1 5

abbrev pub slice_of_kind : ℕ → List Row
slice_of_kind kind = slice_rows 1 1 kind 0 1 1 1 5

-- 2: kinds 3 and 4; of costs 1 and 2; of slices 2 and 3
abbrev pub kind_edges : List Edge
kind_edges =
    call (of_kind 3 3 4) 0
    ∷ call (of_kind 4 3 4) 2
    ∷ call (costs_of_kind 1) 0
    ∷ call (costs_of_kind 2) 2
    ∷ call (slice_of_kind 2) 0
    ∷ call (slice_of_kind 3) 2
    ∷ []

-- 3: d1 of 0, 1, 255 and 256; d2 around d1 and around 2·d1; no weights for another kind
abbrev pub weight_edges : List Edge
weight_edges =
    call (of_kind 3 0 0) 3
    ∷ call (of_kind 3 1 1) 0
    ∷ call (of_kind 3 255 255) 0
    ∷ call (of_kind 3 255 510) 0
    ∷ call (of_kind 3 256 256) 3
    ∷ call (of_kind 3 3 2) 3
    ∷ call (of_kind 3 3 3) 0
    ∷ call (of_kind 3 3 6) 0
    ∷ call (of_kind 3 3 7) 3
    ∷ call (of_kind 0 0 0) 0
    ∷ call (of_kind 2 0 0) 0
    ∷ []

-- the calls on a board of 3 by 2 with the lengths of the picture, the distances, the sites and the scratch, and of the
-- path for a lane
abbrev pub lent_map : ℕ → ℕ → ℕ → ℕ → List Row
lent_map picture distances sites scratch = picture_rows 3 2 0 0 0 (replicate picture 1) distances sites scratch

abbrev pub lent_costs : ℕ → ℕ → ℕ → ℕ → List Row
lent_costs costs distances sites scratch = cost_rows 3 2 0 (replicate costs 0) distances sites scratch

abbrev pub lent_lane : ℕ → ℕ → ℕ → ℕ → ℕ → List Row
lent_lane path picture distances sites scratch =
    lane_rows 3 2 (replicate picture 1) 0 5 distances sites scratch path

abbrev pub lent_slice : ℕ → ℕ → ℕ → ℕ → List Row
lent_slice picture distances sites scratch = slice_rows 3 2 0 0 picture distances sites scratch

-- 4: each list of the minimum length, longer buffers, each list a word short, and the picture a word too long
abbrev pub lent_edges : (ℕ → ℕ → ℕ → ℕ → List Row) → List Edge
lent_edges lent =
    call (lent 6 6 6 16) 0
    ∷ call (lent 6 7 7 17) 0
    ∷ call (lent 5 6 6 16) 4
    ∷ call (lent 7 7 7 17) 4
    ∷ call (lent 6 5 6 16) 4
    ∷ call (lent 6 6 5 16) 4
    ∷ call (lent 6 6 6 15) 4
    ∷ []

abbrev pub path_edges : List Edge
path_edges = call (lent_lane 5 6 6 6 16) 4 ∷ call (lent_lane 7 6 6 6 16) 0 ∷ []

-- 4: slices unequal, empty and over 4,194,304, with pitch and radius 64.0
abbrev pub clear_of : ℕ → ℕ → List Row
clear_of squares clear = clear_rows (setting (fin false 1 (pos 6)) (fin false 1 (pos 6))) squares clear

abbrev pub clear_edges : List Edge
clear_edges =
    call (clear_of 0 0) 4
    ∷ call (clear_of 1 1) 0
    ∷ call (clear_of 1 2) 4
    ∷ call (clear_of 2 1) 4
    ∷ call (clear_of 4_194_304 4_194_304) 0
    ∷ call (clear_of 4_194_305 4_194_305) 4
    ∷ []

-- a map, a lane and costs of 2 by 1
abbrev pub map_of : ℕ → ℕ → List Row
map_of first second = picture_rows 2 1 0 0 0 (first ∷ second ∷ []) 2 2 8

abbrev pub lane_of : ℕ → ℕ → List Row
lane_of first second = lane_rows 2 1 (first ∷ second ∷ []) 0 1 2 2 8 2

abbrev pub costs_of : ℕ → ℕ → List Row
costs_of first second = cost_rows 2 1 0 (first ∷ second ∷ []) 2 2 8

-- 5: bytes 0, 1 and 2; costs 0, 1,000,000 and 1,000,001, the mark and one less. 6: nothing bored; every cost the mark.
abbrev pub content_edges : List Edge
content_edges =
    call (map_of 0 1) 0
    ∷ call (map_of 1 0) 0
    ∷ call (map_of 2 1) 5
    ∷ call (map_of 1 2) 5
    ∷ call (map_of 0 0) 6
    ∷ call (lane_of 0 1) 0
    ∷ call (lane_of 1 2) 5
    ∷ call (lane_of 0 0) 6
    ∷ call (costs_of 0 1_000_000) 0
    ∷ call (costs_of 0 1_000_001) 5
    ∷ call (costs_of 0 4_294_967_294) 5
    ∷ call (costs_of 0 4_294_967_295) 0
    ∷ call (costs_of 4_294_967_295 4_294_967_295) 6
    ∷ []

-- 7: the two ends of a lane on a board of 3 by 2
abbrev pub ends : ℕ → ℕ → List Row
ends from to = lane_rows 3 2 (1 ∷ 0 ∷ 0 ∷ 0 ∷ 0 ∷ 0 ∷ []) from to 6 6 16 6

abbrev pub end_edges : List Edge
end_edges = call (ends 0 5) 0 ∷ call (ends 5 0) 0 ∷ call (ends 0 6) 7 ∷ call (ends 6 0) 7 ∷ []

-- 8: k of 1, 96 and 4,096, which are 0.015625, 1.5 and 64.0. Bad are 4,097 and 1.5 over 64, the f32 nearest to 0.01, both
-- zeros, −1.0, infinity and NaN. `fin s m e` is m·2^e, negative where s is true.
abbrev pub knob_edges : List Edge
knob_edges =
    opening (fin false 1 (negsuc 5)) (fin false 3 (negsuc 0)) 1 96
    ∷ opening (fin false 3 (negsuc 0)) (fin false 1 (pos 6)) 96 4096
    ∷ no_opening (fin false 4097 (negsuc 5)) (fin false 1 (pos 0))
    ∷ no_opening (fin false 1 (pos 0)) (fin false 4097 (negsuc 5))
    ∷ no_opening (fin false 3 (negsuc 6)) (fin false 1 (pos 0))
    ∷ no_opening (fin false 5368709 (negsuc 28)) (fin false 1 (pos 0))
    ∷ no_opening (fin false 0 (pos 0)) (fin false 1 (pos 0))
    ∷ no_opening (fin false 1 (pos 0)) (fin true 0 (pos 0))
    ∷ no_opening (fin true 1 (pos 0)) (fin false 1 (pos 0))
    ∷ no_opening (inf false) (fin false 1 (pos 0))
    ∷ no_opening (fin false 1 (pos 0)) nan
    ∷ []

-- 9: i beside u, u of 2,047 and 2,048, values of 17,000,000 and 17,000,001
abbrev pub changeover_edges : List Edge
changeover_edges =
    call (changeover_rows 0 1 0 0) 0
    ∷ call (changeover_rows 1 1 0 0) 9
    ∷ call (changeover_rows 2 1 0 0) 9
    ∷ call (changeover_rows 0 2_047 0 0) 0
    ∷ call (changeover_rows 0 2_048 0 0) 9
    ∷ call (changeover_rows 0 1 17_000_000 17_000_000) 0
    ∷ call (changeover_rows 0 1 17_000_001 0) 9
    ∷ call (changeover_rows 0 1 0 17_000_001) 9
    ∷ []

-- 10: files of 3, 4, 16,384, 16,386 and 16,388 bytes, all 0. 6: an empty one.
abbrev pub length_edges : List Edge
length_edges =
    call (file_rows []) 6
    ∷ call (file_rows (replicate 3 0)) 10
    ∷ call (file_rows (replicate 4 0)) 0
    ∷ call (file_rows (replicate 16_384 0)) 0
    ∷ call (file_rows (replicate 16_386 0)) 10
    ∷ call (file_rows (replicate 16_388 0)) 10
    ∷ []

-- 11: x and y of 63, 64 and 256
abbrev pub record_edges : List Edge
record_edges =
    call (file_rows (63 ∷ 0 ∷ 63 ∷ 0 ∷ [])) 0
    ∷ call (file_rows (64 ∷ 0 ∷ 0 ∷ 0 ∷ [])) 11
    ∷ call (file_rows (0 ∷ 0 ∷ 64 ∷ 0 ∷ [])) 11
    ∷ call (file_rows (0 ∷ 1 ∷ 0 ∷ 0 ∷ [])) 11
    ∷ call (file_rows (0 ∷ 0 ∷ 0 ∷ 1 ∷ [])) 11
    ∷ []

-- 12: line numbers around W + H on a board of 3 by 2, and the greatest; around W + H on the largest board, and there a
-- scratch that is a word short
abbrev pub at_line : ℕ → List Row
at_line line = slice_rows 3 2 0 line 6 6 6 16

abbrev pub on_largest : ℕ → ℕ → List Row
on_largest line scratch = slice_rows 2_048 2_048 0 line 4_194_304 4_194_304 4_194_304 scratch

abbrev pub start_edges : List Edge
start_edges =
    call (at_line 0) 0
    ∷ call (at_line 4) 0
    ∷ call (at_line 5) 0
    ∷ call (at_line 6) 12
    ∷ call (at_line 4_294_967_295) 12
    ∷ call (on_largest 0 4_202_496) 0
    ∷ call (on_largest 4_096 4_202_496) 0
    ∷ call (on_largest 4_097 4_202_496) 12
    ∷ call (on_largest 0 4_202_495) 4
    ∷ []

-- the left column of a board of 2 by 2, by the bytes in it and those beside it
abbrev pub left_column : ℕ → ℕ → ℕ → ℕ → List Row
left_column top bottom beside-top beside-bottom = column_rows 2 2 (top ∷ beside-top ∷ bottom ∷ beside-bottom ∷ []) 0

-- 5 of a column: bytes 0, 1 and 2 in it, and 2 beside it
abbrev pub column_edges : List Edge
column_edges =
    call (left_column 0 0 0 0) 0
    ∷ call (left_column 0 1 1 0) 0
    ∷ call (left_column 1 1 0 0) 0
    ∷ call (left_column 2 0 0 0) 5
    ∷ call (left_column 1 2 0 0) 5
    ∷ call (left_column 255 0 0 0) 5
    ∷ call (left_column 0 1 2 0) 0
    ∷ call (left_column 1 0 1 2) 0
    ∷ []

-- the lower row of a board of 3 by 2, by its words; those of the row above can't be done
abbrev pub lower_row : ℕ → ℕ → ℕ → List Row
lower_row left middle right = row_rows 3 2 (2 ∷ 2 ∷ 2 ∷ left ∷ middle ∷ right ∷ []) 1

-- 13: words H − 1, H, H + 1 and the one below the mark; a bad word beside marks. 6: the mark beside a word, and alone.
abbrev pub row_edges : List Edge
row_edges =
    call (lower_row 1 1 1) 0
    ∷ call (lower_row 0 1 0) 0
    ∷ call (lower_row 2 0 0) 13
    ∷ call (lower_row 0 2 0) 13
    ∷ call (lower_row 0 0 2) 13
    ∷ call (lower_row 0 3 1) 13
    ∷ call (lower_row 1 4_294_967_294 0) 13
    ∷ call (lower_row 1 4_294_967_295 4_294_967_295) 0
    ∷ call (lower_row 4_294_967_295 4_294_967_295 0) 0
    ∷ call (lower_row 4_294_967_295 4_294_967_295 4_294_967_295) 6
    ∷ call (lower_row 4_294_967_295 2 4_294_967_295) 13
    ∷ []

-- the lines of a board of 3 by 2: three columns, the middle one with a bad byte, and two rows, the upper one all marks
abbrev pub line_of : ℕ → ℕ
line_of line =
    line_number 3 2 (0 ∷ 2 ∷ 0 ∷ 1 ∷ 0 ∷ 0 ∷ [])
    (4_294_967_295 ∷ 4_294_967_295 ∷ 4_294_967_295 ∷ 1 ∷ 4_294_967_295 ∷ 4_294_967_295 ∷ []) line

-- "Lines are W columns from the left, then H rows from the top."
abbrev pub line_edges : List Edge
line_edges =
    number (line_of 0) 0
    ∷ number (line_of 1) 5
    ∷ number (line_of 2) 0
    ∷ number (line_of 3) 6
    ∷ number (line_of 4) 0
    ∷ []

-- 8 of a pitch by itself: k of 1, 96 and 4,096; 4,097 and 1.5 over 64, both zeros, −1.0, the infinities and NaN
abbrev pub pitch_edges : List Edge
pitch_edges =
    good_pitch (fin false 1 (negsuc 5)) 1
    ∷ good_pitch (fin false 3 (negsuc 0)) 96
    ∷ good_pitch (fin false 1 (pos 6)) 4_096
    ∷ no_pitch (fin false 4097 (negsuc 5))
    ∷ no_pitch (fin false 3 (negsuc 6))
    ∷ no_pitch (fin false 0 (pos 0))
    ∷ no_pitch (fin true 0 (pos 0))
    ∷ no_pitch (fin true 1 (pos 0))
    ∷ no_pitch (inf false)
    ∷ no_pitch (inf true)
    ∷ no_pitch nan
    ∷ []

-- 4: text buffers of 0, 19, 20 and 21 bytes, with pitch 64.0
abbrev pub text_of : ℕ → List Row
text_of bytes = text_rows (word_32 (fin false 1 (pos 6))) bytes

abbrev pub text_edges : List Edge
text_edges =
    call (text_of 0) 4
    ∷ call (text_of 19) 4
    ∷ call (text_of 20) 0
    ∷ call (text_of 21) 0
    ∷ []

-- "N the greatest whole number such that N² ≤ 16·d·a²": d = 2 and pitch 1.0, whose a is 64; two squares, and one less
-- than a square; 16 less than that of 256, and that square; the least and the greatest of all. The words of N = 1, 255,
-- 256 and 362, which are 1/256, 255/256, 1.0 and 1.4140625.
abbrev pub root_edges : List Edge
root_edges =
    whole_root (centre_under 2 64) 362
    ∷ whole_root (centre_under 9 64) 768
    ∷ whole_root (centre_under 1 1) 4
    ∷ whole_root (centre_under 3 1) 6
    ∷ whole_root (centre_under 4_095 1) 255
    ∷ whole_root (centre_under 4_096 1) 256
    ∷ whole_root (centre_under 0 4_096) 0
    ∷ whole_root (centre_under 4_294_967_295 4_096) 1_073_741_823
    ∷ number (figure_word 1 0) 4_571_153_621_781_053_440
    ∷ number (figure_word 255 7) 4_607_147_234_427_928_576
    ∷ number (figure_word 256 8) 4_607_182_418_800_017_408
    ∷ number (figure_word 362 8) 4_609_047_190_520_725_504
    ∷ []

-- "the first row that holds": two rows or more hold, and the answer is the first in the entry's order. Of each entry
-- every two rows are here that it tests one after the other and that can both hold (2 and 3 cannot).
abbrev pub order_edges : List Edge
order_edges =
    call (picture_rows 0 1 4 0 0 [] 0 0 2) 1
    ∷ call (picture_rows 1 1 4 0 0 (2 ∷ []) 0 1 5) 2
    ∷ call (picture_rows 1 1 3 0 0 (1 ∷ []) 0 1 5) 3
    ∷ call (picture_rows 1 1 0 0 0 (2 ∷ []) 0 1 5) 4
    ∷ call (map_of 0 2) 5
    ∷ call (cost_rows 0 1 2 [] 0 0 2) 1
    ∷ call (cost_rows 1 1 2 (0 ∷ []) 0 1 5) 2
    ∷ call (cost_rows 1 1 0 (1_000_001 ∷ []) 0 1 5) 4
    ∷ call (costs_of 4_294_967_295 1_000_001) 5
    ∷ call (lane_rows 0 1 [] 0 0 0 0 1 0) 1
    ∷ call (lane_rows 1 1 (2 ∷ []) 0 0 1 1 5 0) 4
    ∷ call (lane_of 0 2) 5
    ∷ call (lane_rows 1 1 (0 ∷ []) 0 1 1 1 5 1) 6
    ∷ call (clear_rows (setting nan nan) 0 0) 4
    ∷ call (file_rows (64 ∷ 0 ∷ 0 ∷ 0 ∷ 0 ∷ [])) 10
    ∷ call (file_rows (0 ∷ 0 ∷ 255 ∷ 255 ∷ [])) 11
    ∷ call (slice_rows 0 1 3 0 0 0 0 2) 1
    ∷ call (slice_rows 1 1 3 0 1 0 1 5) 2
    ∷ call (slice_rows 1 1 0 3 1 0 1 5) 4
    ∷ call (text_rows (word_32 nan) 19) 4
    ∷ []

-- all of them
abbrev pub edges : List Edge
edges =
    number_edges
    ++ side_edges plain_map ++ side_edges plain_costs ++ side_edges plain_lane ++ side_edges plain_slice
    ++ kind_edges ++ weight_edges
    ++ lent_edges lent_map ++ lent_edges lent_costs ++ lent_edges (lent_lane 6) ++ lent_edges lent_slice
    ++ path_edges ++ clear_edges
    ++ content_edges ++ end_edges ++ knob_edges ++ changeover_edges ++ length_edges ++ record_edges
    ++ start_edges ++ column_edges ++ row_edges ++ line_edges ++ pitch_edges ++ text_edges ++ root_edges ++ order_edges
