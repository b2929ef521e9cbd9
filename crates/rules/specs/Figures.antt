-- Whole calls in figures, as one list of values of one type. Each says the very record of `Calls` and its like that its
-- entry's contract cites, and where an entry answers values, through `Answers`. The samples and the edges stop below: they
-- speak of words, sites, lanes and rows. Here it shows which of them stands where in a call, and what the call leaves: a
-- rule that takes one for another fails. A `Figure` is such a call; the figure of document 02, E4, is an f64, and the calls
-- that tell one are `millimetres_call` and `text_call`. `proofs/Figures.antt` proves the claim `AllHold` of the list.
-- Assumes nothing.
use Rattle.std.specs.Prelude.{false, List, [], ◌∷◌, ◌++◌, ℕ, ◌+◌, ℤ, pos, negsuc, Float, replicate, Result, Ok, Err, Option, Some, None}
use Rattle.std.specs.Float.{nan, fin}
use Rattle.rules.specs.declared.Setting.{Setting}
use Rattle.rules.specs.declared.refusal.Refusal.{Refusal}
use Rattle.rules.specs.declared.refusal.Refusal.TheVariants.{Cell, NoBore, Ends, Setting as BadSetting, Changeover as BadChangeover, Line, Word, Buffers as ShortText}
use Rattle.rules.specs.declared.answers.Opening.{Opening}
use Rattle.rules.specs.declared.answers.Course.{Course}
use Rattle.rules.specs.declared.answers.Reading.{Reading}
use Rattle.rules.specs.declared.answers.Slice.{Slice}
use Rattle.rules.specs.BenchFile.{text}
use Rattle.rules.specs.Answers.{number_of, opening_a, opening_b, changeover_at}
use Rattle.rules.specs.Answers.{lane_width, lane_cells}
use Rattle.rules.specs.Answers.{slice_number, slice_finished, slice_next}
use Rattle.rules.specs.Answers.{bench_sites, bench_farthest, bench_cell}
use Rattle.rules.specs.Answers.{figure_out, text_count}
use Rattle.rules.specs.Calls.{Buffers, buffers, PictureCall, CostCall, LaneCall, OpeningCall, ClearCall}
use Rattle.rules.specs.Calls.{ChangeoverCall, BenchCall, BenchPrints}
use Rattle.rules.specs.Slices.{SliceCall, Chain}
use Rattle.rules.specs.Millimetres.{FigureCall, TextCall}
use Rattle.rules.specs.Edges.{setting}

-- a call of a chain: its budget; the lines finished, the next line and the buffers after
pub record Link : Type 0 where
  pub budget : ℕ
  pub finished : ℕ
  pub next : ℕ
  pub after : Buffers

abbrev pub link : ℕ → ℕ → ℕ → Buffers → Link
link budget finished next after = record { budget = budget; finished = finished; next = next; after = after }

-- the budgets of a chain's calls, and the buffers after the last of them
abbrev pub budgets : List Link → List ℕ
budgets [] = []
budgets (s ∷ ss) = s.budget ∷ budgets ss

abbrev pub left : Buffers → List Link → Buffers
left before [] = before
left before (s ∷ ss) = left s.after ss

-- answers by their numbers
abbrev pub opened : ℕ → ℕ → Result Opening Refusal
opened a b = Ok (record { a = a; b = b })

abbrev pub found : ℕ → ℕ → Result Course Refusal
found width cells = Ok (record { width = width; cells = cells })

abbrev pub read : ℕ → ℕ → ℕ → Result Reading Refusal
read sites farthest cell = Ok (record { sites = sites; farthest = farthest; cell = cell })

abbrev pub worked : Option Refusal → ℕ → ℕ → Result Slice Refusal
worked stop finished next = Ok (record { stop = stop; finished = finished; next = next })

pub data Figure : Type 0 where
  -- W, H, kind, d1, d2, the picture, the buffers; the number, the buffers after
  picture_call : ℕ → ℕ → ℕ → ℕ → ℕ → List ℕ → Buffers → ℕ → Buffers → Figure
  -- W, H, kind, the costs, the buffers; the number, the buffers after
  cost_call : ℕ → ℕ → ℕ → List ℕ → Buffers → ℕ → Buffers → Figure
  -- W, H, the picture, the two ends, the buffers, the path; the answer, the buffers and the path after
  lane_call : ℕ → ℕ → List ℕ → ℕ → ℕ → Buffers → List ℕ → Result Course Refusal → Buffers → List ℕ → Figure
  -- W, H, kind, the line, the budget, the picture, the buffers; the answer, the buffers after
  slice_call : ℕ → ℕ → ℕ → ℕ → ℕ → List ℕ → Buffers → Result Slice Refusal → Buffers → Figure
  -- W, H, kind, the picture, the buffers; the calls from line 0 to W + H
  chain : ℕ → ℕ → ℕ → List ℕ → Buffers → List Link → Figure
  -- the setting; the answer
  opening_call : Setting → Result Opening Refusal → Figure
  -- the setting, the squares, the bytes; the number, the bytes after
  clear_call : Setting → List ℕ → List ℕ → ℕ → List ℕ → Figure
  -- i, u, a, b; the answer
  changeover_call : ℕ → ℕ → ℕ → ℕ → Result ℤ Refusal → Figure
  -- the bytes of the file; the answer, and the text that is printed
  bench_call : List ℕ → Result Reading Refusal → List ℕ → Figure
  -- d, the pitch; the answer
  millimetres_call : ℕ → Float → Result Float Refusal → Figure
  -- d, the pitch, the bytes; the answer, the bytes after
  text_call : ℕ → Float → List ℕ → Result ℕ Refusal → List ℕ → Figure

-- what a figure says of the rules
abbrev pub FigureHolds : Figure → Type 0
FigureHolds (picture_call w h kind d1 d2 picture before n after) = PictureCall w h kind d1 d2 picture before n after
FigureHolds (cost_call w h kind costs before n after) = CostCall w h kind costs before n after
FigureHolds (lane_call w h picture from to before path r after path') =
    LaneCall w h picture from to before path (number_of r) (lane_width r) (lane_cells r) after path'
FigureHolds (slice_call w h kind line budget picture before r after) =
    SliceCall w h kind line budget picture before (number_of r) (slice_number r) (slice_finished r) (slice_next r) after
FigureHolds (chain w h kind picture before slices) =
    Chain w h kind picture (budgets slices) 0 before (w + h) (left before slices)
FigureHolds (opening_call s r) = OpeningCall s (number_of r) (opening_a r) (opening_b r)
FigureHolds (clear_call s squares clear n clear') = ClearCall s squares clear n clear'
FigureHolds (changeover_call i u a b r) = ChangeoverCall i u a b (number_of r) (changeover_at r)
FigureHolds (bench_call bytes r output) =
    BenchCall bytes (number_of r) (bench_sites r) (bench_farthest r) (bench_cell r) × BenchPrints bytes output
FigureHolds (millimetres_call d pitch r) = FigureCall d pitch (number_of r) (figure_out r)
FigureHolds (text_call d pitch before r after) = TextCall d pitch before (number_of r) (text_count r) after

-- the one claim: every figure of a list holds
abbrev pub AllHold : List Figure → Type 0
AllHold [] = Unit {0}
AllHold (f ∷ fs) = FigureHolds f × AllHold fs

-- n words of no meaning, and one more, which a call leaves
abbrev pub rubbish : ℕ → ℕ → List ℕ
rubbish n beyond = replicate n 8 ++ (beyond ∷ [])

-- buffers for a board of n cells, each a word longer than it needs to be
abbrev pub rubbish_for : ℕ → ℕ → Buffers
rubbish_for n scratch = buffers (rubbish n 71) (rubbish n 72) (rubbish scratch 73)

-- what they become: the words, the sites and zeros, and beyond them the same as before
abbrev pub filled : List ℕ → List ℕ → ℕ → Buffers
filled words sites scratch = buffers (words ++ (71 ∷ [])) (sites ++ (72 ∷ [])) (replicate scratch 0 ++ (73 ∷ []))

-- pitch 0.5 and radius 2.0; pitch 0.5 and a radius that is no number
abbrev pub good : Setting
good = setting (fin false 1 (negsuc 0)) (fin false 1 (pos 1))

abbrev pub bad : Setting
bad = setting (fin false 1 (negsuc 0)) nan

-- calls that are accepted
abbrev pub accepted : List Figure
accepted =
    -- 4×2, bore 0, weights 3, 4: no cell is named
    picture_call 4 2 3 3 4 (1 ∷ 0 ∷ 0 ∷ 0 ∷ 0 ∷ 0 ∷ 0 ∷ 0 ∷ []) (rubbish_for 8 20) 0
    (filled (0 ∷ 3 ∷ 6 ∷ 9 ∷ 3 ∷ 4 ∷ 7 ∷ 10 ∷ []) (replicate 8 4_294_967_295) 20)
    -- 4×2, bores (1,0) and (0,1), kind 0, whose weights are not read
    ∷ picture_call 4 2 0 7 1 (0 ∷ 1 ∷ 0 ∷ 0 ∷ 1 ∷ 0 ∷ 0 ∷ 0 ∷ []) (rubbish_for 8 20) 0
    (filled (1 ∷ 0 ∷ 1 ∷ 4 ∷ 0 ∷ 1 ∷ 2 ∷ 5 ∷ []) (4 ∷ 1 ∷ 1 ∷ 1 ∷ 4 ∷ 4 ∷ 1 ∷ 1 ∷ []) 20)
    -- 3×2, costs 0 at (0,0), 9 at (2,0) and 2 at (2,1), kind 1; cell (2,0) would get 3 by kind 0
    ∷ cost_call 3 2 1 (0 ∷ 4_294_967_295 ∷ 9 ∷ 4_294_967_295 ∷ 4_294_967_295 ∷ 2 ∷ []) (rubbish_for 6 16) 0
    (filled (0 ∷ 1 ∷ 2 ∷ 1 ∷ 2 ∷ 2 ∷ []) (0 ∷ 0 ∷ 0 ∷ 0 ∷ 0 ∷ 5 ∷ []) 16)
    -- 4×2, bore (1,0), lane 0 to 2: around the bore
    ∷ lane_call 4 2 (0 ∷ 1 ∷ 0 ∷ 0 ∷ 0 ∷ 0 ∷ 0 ∷ 0 ∷ []) 0 2 (rubbish_for 8 20) (rubbish 8 74) (found 1 5)
    (filled (1 ∷ 0 ∷ 1 ∷ 4 ∷ 2 ∷ 1 ∷ 2 ∷ 5 ∷ []) (replicate 8 1) 20)
    (0 ∷ 4 ∷ 5 ∷ 6 ∷ 2 ∷ 4_294_967_295 ∷ 4_294_967_295 ∷ 4_294_967_295 ∷ 74 ∷ [])
    -- pitch 0.5, radius 2.0: a = 32, b = 128; d = 16 clear, 15 not
    ∷ opening_call good (opened 32 128)
    ∷ clear_call good (16 ∷ 15 ∷ []) (8 ∷ 8 ∷ []) 0 (1 ∷ 0 ∷ [])
    -- changeover 0, 1, a = 2,000,000, b = 0: −1,000,000
    ∷ changeover_call 0 1 2_000_000 0 (Ok (negsuc 999_999))
    -- changeover 0, 1, a = 17,000,000, b = 0: −8,500,000
    ∷ changeover_call 0 1 17_000_000 0 (Ok (negsuc 8_499_999))
    -- the one record (0, 0): sites 1, farthest 7938, cell 4095 (`sample_text` has the bytes of the text)
    ∷ bench_call (0 ∷ 0 ∷ 0 ∷ 0 ∷ []) (read 1 7938 4095) (text 0 1 7938 4095)
    ∷ []

-- the texts 1.41406250, 0.00000000, 0.03125000 and 4194303.99609375
abbrev pub root_of_two : List ℕ
root_of_two = 49 ∷ 46 ∷ 52 ∷ 49 ∷ 52 ∷ 48 ∷ 54 ∷ 50 ∷ 53 ∷ 48 ∷ []

abbrev pub nothing_text : List ℕ
nothing_text = 48 ∷ 46 ∷ 48 ∷ 48 ∷ 48 ∷ 48 ∷ 48 ∷ 48 ∷ 48 ∷ 48 ∷ []

abbrev pub two_fine : List ℕ
two_fine = 48 ∷ 46 ∷ 48 ∷ 51 ∷ 49 ∷ 50 ∷ 53 ∷ 48 ∷ 48 ∷ 48 ∷ []

abbrev pub farthest_text : List ℕ
farthest_text =
    52 ∷ 49 ∷ 57 ∷ 52 ∷ 51 ∷ 48 ∷ 51 ∷ 46 ∷ 57 ∷ 57 ∷ 54 ∷ 48 ∷ 57 ∷ 51 ∷ 55 ∷ 53 ∷ []

-- millimetres: d = 2 and pitch 1.0, whose N is 362; d = 0, which is the positive zero; d = 1 and 4 with the least pitch,
-- one and two cells of 1/64 mm; the greatest d with the greatest pitch. `fin s m e` is m·2^e.
abbrev pub in_millimetres : List Figure
in_millimetres =
    millimetres_call 2 (fin false 1 (pos 0)) (Ok (fin false 181 (negsuc 6)))
    ∷ millimetres_call 0 (fin false 1 (pos 6)) (Ok (fin false 0 (pos 0)))
    ∷ millimetres_call 1 (fin false 1 (negsuc 5)) (Ok (fin false 1 (negsuc 5)))
    ∷ millimetres_call 4_294_967_295 (fin false 1 (pos 6)) (Ok (fin false 1_073_741_823 (negsuc 7)))
    ∷ text_call 2 (fin false 1 (pos 0)) (replicate 20 8) (Ok 10) (root_of_two ++ replicate 10 8)
    ∷ text_call 0 (fin false 1 (pos 6)) (replicate 21 8) (Ok 10) (nothing_text ++ replicate 11 8)
    ∷ text_call 4 (fin false 1 (negsuc 5)) (replicate 20 8) (Ok 10) (two_fine ++ replicate 10 8)
    ∷ text_call 4_294_967_295 (fin false 1 (pos 6)) (replicate 20 8) (Ok 16) (farthest_text ++ replicate 4 8)
    ∷ []

-- buffers for a board of n cells and `tail` scratch words besides, each a word longer than it needs to be, by the scratch
-- words of the cells; and what a slice makes of them, by the words, the sites and the scratch words of the cells
abbrev pub lent_words : ℕ → ℕ → List ℕ → Buffers
lent_words n tail words = buffers (rubbish n 71) (rubbish n 72) (words ++ rubbish tail 73)

abbrev pub sliced : List ℕ → List ℕ → ℕ → List ℕ → Buffers
sliced distances sites tail words =
    buffers (distances ++ (71 ∷ [])) (sites ++ (72 ∷ [])) (words ++ replicate tail 0 ++ (73 ∷ []))

-- slices that begin: those that finish what the budget and the rest allow, those that are stopped, and a chain of three
abbrev pub begun : List Figure
begun =
    -- 2×3, line 0, budget 1: the left column, bored at both ends, of which the upper is named on the tie. The bad bytes of
    -- the other column are not looked at, and no row is begun.
    slice_call 2 3 0 0 1 (1 ∷ 2 ∷ 0 ∷ 2 ∷ 1 ∷ 2 ∷ []) (lent_words 6 10 (replicate 6 8)) (worked None 1 1)
    (sliced (replicate 6 8) (replicate 6 8) 10 (0 ∷ 8 ∷ 0 ∷ 8 ∷ 2 ∷ 8 ∷ []))
    -- 3×2, line 4, the greatest budget: the lower row believes its words, though nothing is bored, and looks at no
    -- byte. (1,0) and (2,1) are named, and from the middle they are equally far.
    ∷ slice_call 3 2 0 4 4_294_967_295 (0 ∷ 0 ∷ 0 ∷ 0 ∷ 0 ∷ 2 ∷ [])
    (lent_words 6 10 (8 ∷ 8 ∷ 8 ∷ 4_294_967_295 ∷ 0 ∷ 1 ∷ [])) (worked None 1 5)
    (sliced (8 ∷ 8 ∷ 8 ∷ 2 ∷ 1 ∷ 0 ∷ []) (8 ∷ 8 ∷ 8 ∷ 1 ∷ 1 ∷ 5 ∷ []) 10 (8 ∷ 8 ∷ 8 ∷ 4_294_967_295 ∷ 0 ∷ 1 ∷ []))
    -- 2×2, line 0, budget 3: the left column, which has no bore, the right one, bored at (1,1), and the upper row by kind 2,
    -- and not the lower one
    ∷ slice_call 2 2 2 0 3 (0 ∷ 0 ∷ 0 ∷ 1 ∷ []) (lent_words 4 8 (replicate 4 8)) (worked None 3 3)
    (sliced (1 ∷ 1 ∷ 8 ∷ 8 ∷ []) (3 ∷ 3 ∷ 8 ∷ 8 ∷ []) 8 (4_294_967_295 ∷ 1 ∷ 4_294_967_295 ∷ 1 ∷ []))
    -- 2×2, line 1, budget 0; and line 4, which is W + H, with a budget: no line is looked at, and the tail is zero
    ∷ slice_call 2 2 2 1 0 (2 ∷ 2 ∷ 2 ∷ 2 ∷ []) (lent_words 4 8 (replicate 4 8)) (worked None 0 1)
    (sliced (replicate 4 8) (replicate 4 8) 8 (replicate 4 8))
    ∷ slice_call 2 2 2 4 9 (2 ∷ 2 ∷ 2 ∷ 2 ∷ []) (lent_words 4 8 (replicate 4 8)) (worked None 0 4)
    (sliced (replicate 4 8) (replicate 4 8) 8 (replicate 4 8))
    -- 3×2, line 0, budget 5: stopped by a bad byte in the second column, with the first finished
    ∷ slice_call 3 2 0 0 5 (1 ∷ 0 ∷ 0 ∷ 0 ∷ 2 ∷ 0 ∷ []) (lent_words 6 10 (replicate 6 8)) (worked (Some Cell) 1 1)
    (sliced (replicate 6 8) (replicate 6 8) 10 (0 ∷ 8 ∷ 8 ∷ 0 ∷ 8 ∷ 8 ∷ []))
    -- 3×2, line 3, budget 2, kind 1: the upper row finished, then stopped by a word H in the lower one
    ∷ slice_call 3 2 1 3 2 (replicate 6 0) (lent_words 6 10 (1 ∷ 4_294_967_295 ∷ 4_294_967_295 ∷ 0 ∷ 2 ∷ 1 ∷ []))
    (worked (Some Word) 1 4)
    (sliced (1 ∷ 2 ∷ 3 ∷ 8 ∷ 8 ∷ 8 ∷ []) (3 ∷ 3 ∷ 3 ∷ 8 ∷ 8 ∷ 8 ∷ []) 10
    (1 ∷ 4_294_967_295 ∷ 4_294_967_295 ∷ 0 ∷ 2 ∷ 1 ∷ []))
    -- 2×2, line 3, budget 1: stopped by a row that is all marks
    ∷ slice_call 2 2 0 3 1 (1 ∷ 1 ∷ 1 ∷ 1 ∷ []) (lent_words 4 8 (8 ∷ 8 ∷ 4_294_967_295 ∷ 4_294_967_295 ∷ [])) (worked (Some NoBore) 0 3)
    (sliced (replicate 4 8) (replicate 4 8) 8 (8 ∷ 8 ∷ 4_294_967_295 ∷ 4_294_967_295 ∷ []))
    -- 2×2, bore (1,1), kind 0: a chain of a column, the other with the upper row, and the lower row with budget to spare
    ∷ chain 2 2 0 (0 ∷ 0 ∷ 0 ∷ 1 ∷ []) (lent_words 4 8 (replicate 4 8))
    (link 1 1 1 (sliced (replicate 4 8) (replicate 4 8) 8 (4_294_967_295 ∷ 8 ∷ 4_294_967_295 ∷ 8 ∷ []))
    ∷ link 2 2 3 (sliced (2 ∷ 1 ∷ 8 ∷ 8 ∷ []) (3 ∷ 3 ∷ 8 ∷ 8 ∷ []) 8 (4_294_967_295 ∷ 1 ∷ 4_294_967_295 ∷ 1 ∷ []))
    ∷ link 5 1 4 (sliced (2 ∷ 1 ∷ 1 ∷ 0 ∷ []) (replicate 4 3) 8 (4_294_967_295 ∷ 1 ∷ 4_294_967_295 ∷ 1 ∷ []))
    ∷ [])
    ∷ []

-- calls that are refused: the number alone, and everything as it was
abbrev pub refused : List Figure
refused =
    picture_call 2 1 0 0 0 (0 ∷ 0 ∷ []) (rubbish_for 2 8) 6 (rubbish_for 2 8)
    ∷ cost_call 2 1 2 (0 ∷ 0 ∷ []) (rubbish_for 2 8) 2 (rubbish_for 2 8)
    ∷ lane_call 2 1 (0 ∷ 1 ∷ []) 0 2 (rubbish_for 2 8) (rubbish 2 74) (Err Ends) (rubbish_for 2 8) (rubbish 2 74)
    ∷ slice_call 2 2 0 5 1 (1 ∷ 1 ∷ 1 ∷ 1 ∷ []) (rubbish_for 4 12) (Err Line) (rubbish_for 4 12)
    ∷ opening_call bad (Err BadSetting)
    ∷ clear_call bad (16 ∷ 15 ∷ []) (8 ∷ 9 ∷ []) 8 (8 ∷ 9 ∷ [])
    ∷ changeover_call 1 1 0 0 (Err BadChangeover)
    ∷ bench_call [] (Err NoBore) (text 6 0 0 0)
    ∷ millimetres_call 2 nan (Err BadSetting)
    ∷ text_call 2 nan (replicate 20 8) (Err BadSetting) (replicate 20 8)
    ∷ text_call 2 nan (replicate 19 8) (Err ShortText) (replicate 19 8)
    ∷ []

-- all of them
abbrev pub figures : List Figure
figures = accepted ++ in_millimetres ++ begun ++ refused
