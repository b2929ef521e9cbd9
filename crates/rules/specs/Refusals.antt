-- "When the bench says no": each row of the table as a test, with the rows of document 02, and for each entry its tests in
-- its order. "the first row that holds, of those the call tests, is the answer", and 0 stands for none. A test is true where
-- its row holds. Assumes nothing.
use Rattle.std.specs.Prelude.{Bool, false, not, ◌&&◌, ◌||◌, cond, List, [], ◌∷◌, ℕ, zero, suc, ◌+◌, ◌*◌, ◌%◌, ◌^◌, leb, ltb, eqb, length}
use Rattle.rules.specs.declared.Setting.{Setting}
use Rattle.rules.specs.Limits.{side_limit, mark, kind_limit, cost_kind_limit, slice_kind_limit, cost_limit, weight_limit, column_limit, value_limit, knob_limit, clear_limit, file_limit, text_bytes}
use Rattle.rules.specs.Measures.{chamfer_kind}
use Rattle.rules.specs.Knob.{pitch_word, radius_word, good_word}
use Rattle.rules.specs.BenchFile.{bored_by, off_board}

-- one row of the table: its number, and whether it holds of the inputs
pub record Row : Type 0 where
  pub number : ℕ
  pub holds : Bool

abbrev pub row : ℕ → Bool → Row
row n b = record { number = n; holds = b }

-- "the first row that holds, of those the call tests, is the answer"
abbrev pub answer : List Row → ℕ
answer [] = 0
answer (r ∷ rs) = cond r.holds r.number (answer rs)

-- a number of a list passes the test; one below n does
abbrev pub any : (ℕ → Bool) → List ℕ → Bool
any p [] = false
any p (b ∷ bs) = p b || any p bs

abbrev pub some : ℕ → (ℕ → Bool) → Bool
some zero p = false
some (suc n) p = p n || some n p

-- "scratch (at least W·H + 2W + 2H)"
abbrev pub scratch_words : ℕ → ℕ → ℕ
scratch_words w h = w * h + 2 * w + 2 * h

-- 1: "W or H is 0 or above" the side limit
unfoldable pub bad_sides : ℕ → ℕ → Bool
bad_sides w h = eqb w 0 || eqb h 0 || ltb side_limit w || ltb side_limit h

-- 2: "kind above 3 (costs: above 1)"
unfoldable pub bad_kind : ℕ → ℕ → Bool
bad_kind most kind = ltb most kind

-- 3: "kind 3 and the weights break the rule above"
unfoldable pub bad_weights : ℕ → ℕ → ℕ → Bool
bad_weights kind d1 d2 = eqb kind chamfer_kind && (ltb d1 1 || ltb weight_limit d1 || ltb d2 d1 || ltb (2 * d1) d2)

-- 4: "a picture of another length, a buffer below its minimum"
unfoldable pub bad_buffers : ℕ → ℕ → ℕ → ℕ → ℕ → ℕ → Bool
bad_buffers w h picture distances sites scratch =
    not (eqb picture (w * h)) || ltb distances (w * h) || ltb sites (w * h) || ltb scratch (scratch_words w h)

-- 4, for a lane's path buffer "of at least W·H words"
unfoldable pub bad_path : ℕ → ℕ → ℕ → Bool
bad_path w h path = ltb path (w * h)

-- 4: "clear-map slices unequal, empty or over" the clear-map limit
unfoldable pub bad_slices : ℕ → ℕ → Bool
bad_slices squares clear = not (eqb squares clear) || eqb squares 0 || ltb clear_limit squares

-- 5: "a picture byte is neither 0 nor 1; a cost is neither ≤ 1,000,000 nor the mark"
unfoldable pub bad_byte : ℕ → Bool
bad_byte b = not (eqb b 0 || eqb b 1)

unfoldable pub bad_cost : ℕ → Bool
bad_cost c = not (leb c cost_limit || eqb c mark)

-- 6: "no bored or unmarked cell"
unfoldable pub no_bore : List ℕ → Bool
no_bore picture = not (any (eqb 1) picture)

unfoldable pub all_marked : List ℕ → Bool
all_marked costs = not (any (λ c. not (eqb c mark)) costs)

-- 7: "a lane end ≥ W·H"
unfoldable pub bad_ends : ℕ → ℕ → ℕ → ℕ → Bool
bad_ends w h from to = leb (w * h) from || leb (w * h) to

-- 8: "pitch or radius bad". A word is good when it is the word of the good value for some whole number from 1 to 4,096,
-- here k + 1 for a k below 4,096, with 2^m the greatest power of two not above that number.
unfoldable pub good_value : ℕ → Bool
good_value word =
    some knob_limit (λ k. some 13 (λ m. leb (2 ^ m) (k + 1) && ltb (k + 1) (2 ^ (m + 1)) && eqb word (good_word (k + 1) m)))

unfoldable pub bad_setting : Setting → Bool
bad_setting s = not (good_value (pitch_word s)) || not (good_value (radius_word s))

-- 9: "changeover with i ≥ u", u above the column limit, "or a value over" the value limit
unfoldable pub bad_changeover : ℕ → ℕ → ℕ → ℕ → Bool
bad_changeover i u a b = leb u i || ltb column_limit u || ltb value_limit a || ltb value_limit b

-- 10: "file length not a multiple of 4, or over 16,384 bytes"
unfoldable pub bad_length : ℕ → Bool
bad_length bytes = not (eqb (bytes % 4) 0) || ltb file_limit bytes

-- 12, of document 02, E1: "a line number above W+H"
unfoldable pub bad_line : ℕ → ℕ → ℕ → Bool
bad_line w h line = ltb (w + h) line

-- 13, of document 02, E1: "a word neither below H nor the mark"
unfoldable pub bad_word : ℕ → ℕ → Bool
bad_word h word = not (ltb word h || eqb word mark)

-- 4, of document 02, E4: "if the buffer is under 20 bytes"
unfoldable pub short_text : ℕ → Bool
short_text bytes = ltb bytes text_bytes

-- 8 of a pitch by itself, by its word. Document 02, E4: "Refusal 8 for the pitch"
unfoldable pub bad_pitch : ℕ → Bool
bad_pitch word = not (good_value word)

-- the sides by themselves, which every entry on a board tests first
abbrev pub sides_rows : ℕ → ℕ → List Row
sides_rows w h = row 1 (bad_sides w h) ∷ []

-- "Pictures test 1 to 6"
abbrev pub picture_rows : ℕ → ℕ → ℕ → ℕ → ℕ → List ℕ → ℕ → ℕ → ℕ → List Row
picture_rows w h kind d1 d2 picture distances sites scratch =
    row 1 (bad_sides w h)
    ∷ row 2 (bad_kind kind_limit kind)
    ∷ row 3 (bad_weights kind d1 d2)
    ∷ row 4 (bad_buffers w h (length picture) distances sites scratch)
    ∷ row 5 (any bad_byte picture)
    ∷ row 6 (no_bore picture)
    ∷ []

-- "costs 1, 2, 4, 5, 6"
abbrev pub cost_rows : ℕ → ℕ → ℕ → List ℕ → ℕ → ℕ → ℕ → List Row
cost_rows w h kind costs distances sites scratch =
    row 1 (bad_sides w h)
    ∷ row 2 (bad_kind cost_kind_limit kind)
    ∷ row 4 (bad_buffers w h (length costs) distances sites scratch)
    ∷ row 5 (any bad_cost costs)
    ∷ row 6 (all_marked costs)
    ∷ []

-- "a lane 1, 4, 5, 6, 7"
abbrev pub lane_rows : ℕ → ℕ → List ℕ → ℕ → ℕ → ℕ → ℕ → ℕ → ℕ → List Row
lane_rows w h picture from to distances sites scratch path =
    row 1 (bad_sides w h)
    ∷ row 4 (bad_buffers w h (length picture) distances sites scratch || bad_path w h path)
    ∷ row 5 (any bad_byte picture)
    ∷ row 6 (no_bore picture)
    ∷ row 7 (bad_ends w h from to)
    ∷ []

-- "a clear map 4, 8"
abbrev pub clear_rows : Setting → ℕ → ℕ → List Row
clear_rows s squares clear = row 4 (bad_slices squares clear) ∷ row 8 (bad_setting s) ∷ []

-- "opening 8"
abbrev pub opening_rows : Setting → List Row
opening_rows s = row 8 (bad_setting s) ∷ []

-- "the changeover 9"
abbrev pub changeover_rows : ℕ → ℕ → ℕ → ℕ → List Row
changeover_rows i u a b = row 9 (bad_changeover i u a b) ∷ []

-- "except that the file program tests 10, 11, 6"
abbrev pub file_rows : List ℕ → List Row
file_rows bytes =
    row 10 (bad_length (length bytes)) ∷ row 11 (off_board bytes) ∷ row 6 (no_bore (bored_by bytes)) ∷ []

-- Document 02, E1: "At the start, changing nothing: 1, 2 (kind above 2, also in later editions), 4, and 12 for a line number
-- above W+H." No byte is looked at, so the picture goes by its length.
abbrev pub slice_rows : ℕ → ℕ → ℕ → ℕ → ℕ → ℕ → ℕ → ℕ → List Row
slice_rows w h kind line picture distances sites scratch =
    row 1 (bad_sides w h)
    ∷ row 2 (bad_kind slice_kind_limit kind)
    ∷ row 4 (bad_buffers w h picture distances sites scratch)
    ∷ row 12 (bad_line w h line)
    ∷ []

-- Document 02, E4: "Refusal 8 for the pitch; 4, before it, if the buffer is under 20 bytes."
abbrev pub figure_rows : ℕ → List Row
figure_rows pitch = row 8 (bad_pitch pitch) ∷ []

abbrev pub text_rows : ℕ → ℕ → List Row
text_rows pitch bytes = row 4 (short_text bytes) ∷ row 8 (bad_pitch pitch) ∷ []
