-- Document 02, E1: "work in slices". What a line is, at which number one stops, what a call finishes and leaves, and chains
-- of calls. No row line changes a cell's scratch word, and the columns come before the rows: so the words that a row line
-- believed are those that stand after the call, and everything is said over these. Assumes nothing.
use Rattle.std.specs.Prelude.{◌≡◌, ◌≢◌, not, cond, List, [], ◌∷◌, ℕ, ◌+◌, ◌-◌, ◌*◌, ◌≤◌, ◌<◌, min, ltb, eqb, length, get_or}
use Rattle.rules.specs.Limits.{mark}
use Rattle.rules.specs.Board.{cell, away, Bored}
use Rattle.rules.specs.Measures.{distance}
use Rattle.rules.specs.Columns.{ColumnWord, RowWord}
use Rattle.rules.specs.Refusals.{Row, row, answer, some, scratch_words, bad_byte, bad_word, slice_rows}
use Rattle.rules.specs.Calls.{Call, Buffers, Beyond}

-- the word of column x in row y: a cell's word stands in the scratch at the cell's number
abbrev pub word_at : ℕ → List ℕ → ℕ → ℕ → ℕ
word_at w scratch x y = get_or scratch (cell w x y) 0

-- "5 if that column has a bad byte"
abbrev pub column_rows : ℕ → ℕ → List ℕ → ℕ → List Row
column_rows w h picture x = row 5 (some h (λ y. bad_byte (get_or picture (cell w x y) 0))) ∷ []

-- "13 if that row's scratch has a word neither below H nor the mark, 6 if all are marks"
abbrev pub row_rows : ℕ → ℕ → List ℕ → ℕ → List Row
row_rows w h scratch y =
    row 13 (some w (λ x. bad_word h (word_at w scratch x y)))
    ∷ row 6 (not (some w (λ x. not (eqb (word_at w scratch x y) mark))))
    ∷ []

-- "Lines are W columns from the left, then H rows from the top.": the number at which line k stops, 0 if it can be done
abbrev pub line_number : ℕ → ℕ → List ℕ → List ℕ → ℕ → ℕ
line_number w h picture scratch k = cond (ltb k w) (answer (column_rows w h picture k)) (answer (row_rows w h scratch (k - w)))

-- how many lines "the budget and the rest allow"
abbrev pub allowed : ℕ → ℕ → ℕ → ℕ → ℕ
allowed w h line budget = min budget (w + h - line)

-- line k is one of those from `line` up to `next`
abbrev pub Among : ℕ → ℕ → ℕ → Type 0
Among line next k = (line ≤ k) × (k < next)

-- "A row line believes these words, whoever put them there: that row's map words become the least by kind over the cells so
-- named in its unmarked columns, least column on a tie.": the map word and the site word of the cell (x, y)
abbrev pub BelievedWord : ℕ → ℕ → List ℕ → ℕ → ℕ → ℕ → ℕ → Type 0
BelievedWord kind w scratch x y d site =
    RowWord w (distance kind 0 0) (λ i. word_at w scratch i y) (λ i. away y (word_at w scratch i y)) x d site

-- what a call has done whose start refuses nothing
pub record SliceAfter (w h kind line budget : ℕ) (picture : List ℕ) (before : Buffers) (number finished next : ℕ) (after : Buffers) : Type 0 where
  -- "A call finishes as many lines as the budget and the rest allow, and says how many lines it finished and the next line
  -- number."
  pub at_most : finished ≤ allowed w h line budget
  pub next_is : next ≡ line + finished
  pub none_stops : (k : ℕ) → Among line next k → line_number w h picture after.scratch k ≡ 0
  pub all_finished : finished ≡ allowed w h line budget → number ≡ 0
  -- "A line is looked at only while budget is left. One that can't be done isn't begun, and the call stops there, answering
  -- its number with the lines finished and that line as next"
  pub stopped : finished < allowed w h line budget → (number ≡ line_number w h picture after.scratch next) × (number ≢ 0)
  -- "After a column line the scratch words with its cells' numbers hold the row of the nearest bore in the column (upper one
  -- on a tie) or the mark."
  pub column_words : (x y : ℕ) → x < w → y < h → Among line next x →
      ColumnWord h (Bored w picture x) (away y) (word_at w after.scratch x y)
  pub row_words : (x y : ℕ) → x < w → y < h → Among line next (w + y) →
      BelievedWord kind w after.scratch x y (get_or after.distances (cell w x y) 0) (get_or after.sites (cell w x y) 0)
  -- "Lines not yet reached are untouched", and those finished before stay
  pub other_columns : (x y : ℕ) → x < w → y < h → (Among line next x → ⊥) →
      word_at w after.scratch x y ≡ word_at w before.scratch x y
  pub other_rows : (x y : ℕ) → x < w → y < h → (Among line next (w + y) → ⊥) →
      (get_or after.distances (cell w x y) 0 ≡ get_or before.distances (cell w x y) 0)
      × (get_or after.sites (cell w x y) 0 ≡ get_or before.sites (cell w x y) 0)
  -- "The 2W+2H scratch words after the first W·H are zero after each call that passes the start tests."
  pub tail_zero : (k : ℕ) → w * h ≤ k → k < scratch_words w h → get_or after.scratch k 0 ≡ 0
  -- 01: "Words beyond these minimum lengths are untouched."
  pub distances_beyond : Beyond (w * h) before.distances after.distances
  pub sites_beyond : Beyond (w * h) before.sites after.sites
  pub scratch_beyond : Beyond (scratch_words w h) before.scratch after.scratch

-- the sliced entry: `start` is the number of the first row of the start that holds, and a start that refuses answers that
-- very number and changes nothing
abbrev pub SliceCall : ℕ → ℕ → ℕ → ℕ → ℕ → List ℕ → Buffers → ℕ → ℕ → ℕ → ℕ → Buffers → Type 0
SliceCall w h kind line budget picture before start number finished next after =
    Call
    (slice_rows w h kind line (length picture) (length before.distances) (length before.sites) (length before.scratch))
    start ((number ≡ start) × (after ≡ before)) (SliceAfter w h kind line budget picture before number finished next after)

-- "every call has the same picture, sizes and kind and starts at the line the call before it named, the host leaves the
-- buffers alone and nothing is refused": calls with these budgets lead from a line and its buffers to another. None is
-- refused at its start, and none is stopped.
abbrev pub Chain : ℕ → ℕ → ℕ → List ℕ → List ℕ → ℕ → Buffers → ℕ → Buffers → Type 0
Chain w h kind picture [] line before end after = (end ≡ line) × (after ≡ before)
Chain w h kind picture (budget ∷ budgets) line before end after =
    (finished : ℕ) × (next : ℕ) × (middle : Buffers)
    × SliceCall w h kind line budget picture before 0 0 finished next middle
    × Chain w h kind picture budgets next middle end after
