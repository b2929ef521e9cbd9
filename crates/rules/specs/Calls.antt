-- What each entry answers and leaves, over numbers and lists: one `Call` an entry, which the entry's contract and its C
-- twin's both cite (the words that a C twin answers through pointers have `Out` in `olavinthu` besides). That of the
-- sliced entry stands in `Slices`, those of the millimetres in `Millimetres`. The laws of `proofs/Pinned.antt` and
-- `proofs/Slices.antt` say that one input allows one answer and one content of each lent list. Assumes nothing.
use Rattle.std.specs.Prelude.{◌≡◌, ◌≢◌, List, ℕ, ◌*◌, ◌≤◌, ◌<◌, ℤ, length, get_or, take, drop}
use Rattle.rules.specs.declared.Setting.{Setting}
use Rattle.rules.specs.Limits.{mark}
use Rattle.rules.specs.Board.{cell}
use Rattle.rules.specs.Measures.{chamfer_kind}
use Rattle.rules.specs.Tie.{MapWord, MapSite, CostMapWord, CostMapSite}
use Rattle.rules.specs.Changeover.{Changeover}
use Rattle.rules.specs.Knob.{Good, pitch_word, radius_word, clear_byte}
use Rattle.rules.specs.Lane.{WidestLane}
use Rattle.rules.specs.BenchFile.{bored_by, bores, Farthest, text}
use Rattle.rules.specs.Refusals.{Row, answer, scratch_words, picture_rows, cost_rows, lane_rows, clear_rows, opening_rows, changeover_rows, file_rows}

-- a call of an entry: its number is that of the first of the entry's rows that holds, 0 for none. "A refusal is its number
-- alone; every lent word keeps its value": `Kept` says so of what the call was lent. `Done` is what an accepted call
-- answers and leaves.
pub record Call (rows : List Row) (number : ℕ) (Kept Done : Type 0) : Type 0 where
  pub answered : number ≡ answer rows
  pub refused : number ≢ 0 → Kept
  pub done : number ≡ 0 → Done

-- a call of an entry that is lent nothing to write
abbrev pub AnswerOnly : List Row → ℕ → Type 0 → Type 0
AnswerOnly rows number Done = Call rows number (Unit {0}) Done

-- the three buffers that a map call is lent
pub record Buffers : Type 0 where
  pub distances : List ℕ
  pub sites : List ℕ
  pub scratch : List ℕ

abbrev pub buffers : List ℕ → List ℕ → List ℕ → Buffers
buffers distances sites scratch = record { distances = distances; sites = sites; scratch = scratch }

-- a list after a call is the list before it from place n on, and as long
pub record Beyond (n : ℕ) (before after : List ℕ) : Type 0 where
  pub as_long : length after ≡ length before
  pub untouched : drop n after ≡ drop n before

-- "On acceptance the first W·H distance and site words hold the map and the scratch words counted above are zero. Words
-- beyond these minimum lengths are untouched.": `Word x y d` says that d is the map word of (x, y), `Named x y s` that s
-- is its site word
pub record MapAfter (w h : ℕ) (Word Named : ℕ → ℕ → ℕ → Type 0) (before after : Buffers) : Type 0 where
  pub words : (x y : ℕ) → x < w → y < h → Word x y (get_or after.distances (cell w x y) 0)
  pub names : (x y : ℕ) → x < w → y < h → Named x y (get_or after.sites (cell w x y) 0)
  pub zeroed : (k : ℕ) → k < scratch_words w h → get_or after.scratch k 0 ≡ 0
  pub distances_beyond : Beyond (w * h) before.distances after.distances
  pub sites_beyond : Beyond (w * h) before.sites after.sites
  pub scratch_beyond : Beyond (scratch_words w h) before.scratch after.scratch

-- the site word of a picture: by the tie rule, but "Kind 3 names no cell; its site words all hold the mark."
pub record SiteWord (kind d1 d2 w h : ℕ) (picture : List ℕ) (x y site : ℕ) : Type 0 where
  pub named : kind ≢ chamfer_kind → MapSite kind d1 d2 w h picture x y site
  pub unnamed : kind ≡ chamfer_kind → site ≡ mark

-- what an accepted map call leaves
abbrev pub PictureAfter : ℕ → ℕ → ℕ → ℕ → ℕ → List ℕ → Buffers → Buffers → Type 0
PictureAfter w h kind d1 d2 picture before after =
    MapAfter w h (MapWord kind d1 d2 w h picture) (SiteWord kind d1 d2 w h picture) before after

-- the picture entry
abbrev pub PictureCall : ℕ → ℕ → ℕ → ℕ → ℕ → List ℕ → Buffers → ℕ → Buffers → Type 0
PictureCall w h kind d1 d2 picture before number after =
    Call
    (picture_rows w h kind d1 d2 picture (length before.distances) (length before.sites) (length before.scratch))
    number (after ≡ before) (PictureAfter w h kind d1 d2 picture before after)

-- the cost entry
abbrev pub CostCall : ℕ → ℕ → ℕ → List ℕ → Buffers → ℕ → Buffers → Type 0
CostCall w h kind costs before number after =
    Call (cost_rows w h kind costs (length before.distances) (length before.sites) (length before.scratch))
    number (after ≡ before) (MapAfter w h (CostMapWord kind w h costs) (CostMapSite kind w h costs) before after)

-- "The first L path words hold it, the rest up to W·H the mark, path words beyond stay, and the other buffers are as
-- after a kind 0 map call."
pub record LaneAfter (w h : ℕ) (picture : List ℕ) (from to : ℕ) (before : Buffers) (path : List ℕ) (broad cells : ℕ) (after : Buffers) (path' : List ℕ) : Type 0 where
  pub found : WidestLane w h picture from to broad (take cells path')
  pub cells_is : length (take cells path') ≡ cells
  pub marked : (k : ℕ) → cells ≤ k → k < w * h → get_or path' k 0 ≡ mark
  pub path_beyond : Beyond (w * h) path path'
  pub map_after : PictureAfter w h 0 0 0 picture before after

-- the lane entry
abbrev pub LaneCall : ℕ → ℕ → List ℕ → ℕ → ℕ → Buffers → List ℕ → ℕ → ℕ → ℕ → Buffers → List ℕ → Type 0
LaneCall w h picture from to before path number broad cells after path' =
    Call
    (lane_rows w h picture from to (length before.distances) (length before.sites) (length before.scratch) (length path))
    number ((after ≡ before) × (path' ≡ path)) (LaneAfter w h picture from to before path broad cells after path')

-- a setting opened to the whole numbers a and b
pub record Opened (s : Setting) (a b : ℕ) : Type 0 where
  pub pitch_good : Good (pitch_word s) a
  pub radius_good : Good (radius_word s) b

-- the opening entry
abbrev pub OpeningCall : Setting → ℕ → ℕ → ℕ → Type 0
OpeningCall s number a b = AnswerOnly (opening_rows s) number (Opened s a b)

-- "an equally long byte slice, whose every byte becomes 1 where d·a² ≥ b², else 0"
pub record ClearAfter (s : Setting) (squares clear clear' : List ℕ) : Type 0 where
  pub a : ℕ
  pub b : ℕ
  pub opened : Opened s a b
  pub bytes : (k : ℕ) → k < length squares → get_or clear' k 0 ≡ clear_byte a b (get_or squares k 0)
  pub as_long : length clear' ≡ length clear

-- the clear map entry
abbrev pub ClearCall : Setting → List ℕ → List ℕ → ℕ → List ℕ → Type 0
ClearCall s squares clear number clear' =
    Call (clear_rows s (length squares) (length clear)) number (clear' ≡ clear) (ClearAfter s squares clear clear')

-- the changeover entry
abbrev pub ChangeoverCall : ℕ → ℕ → ℕ → ℕ → ℕ → ℤ → Type 0
ChangeoverCall i u a b number p = AnswerOnly (changeover_rows i u a b) number (Changeover i u a b p)

-- the three numbers of a bench file
pub record BenchRead (bytes : List ℕ) (sites farthest number : ℕ) : Type 0 where
  pub sites_is : sites ≡ bores (bored_by bytes)
  pub farthest_is : Farthest (bored_by bytes) farthest number

-- the bench file's function
abbrev pub BenchCall : List ℕ → ℕ → ℕ → ℕ → ℕ → Type 0
BenchCall bytes number sites farthest cell_number =
    AnswerOnly (file_rows bytes) number (BenchRead bytes sites farthest cell_number)

-- what the bench program prints for a file: the text of the answer
pub record BenchPrints (bytes output : List ℕ) : Type 0 where
  pub number : ℕ
  pub sites : ℕ
  pub farthest : ℕ
  pub cell_number : ℕ
  pub call : BenchCall bytes number sites farthest cell_number
  pub output_is : output ≡ text number sites farthest cell_number
