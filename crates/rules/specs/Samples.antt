-- "Sample boards": every starred line of document 01, and what document 02 adds to it, as one list of values of one type,
-- and what each says of the rules. Where a line names no kind, kind 0 is meant. Beside it stands a second list of the same
-- type, of boards that are ours: 01 read aright and a likely misreading of it differ there. `proofs/Samples.antt` proves
-- the claim `Shown` of either list, and `proofs/Farthest.antt` the farthest word. Assumes nothing.
use Rattle.std.specs.Prelude.{◌≡◌, List, [], ◌∷◌, ℕ, ◌-◌, ◌*◌, ◌≤◌, ◌<◌, ℤ, pos, negsuc, get_or, replicate}
use Rattle.rules.specs.Board.{Sides, cell}
use Rattle.rules.specs.Tie.{MapWord, MapSite, CostMapWord, CostMapSite}
use Rattle.rules.specs.Changeover.{Changeover}
use Rattle.rules.specs.Knob.{clear_byte}
use Rattle.rules.specs.Lane.{WidestLane}

pub data Sample : Type 0 where
  -- W, H, kind, the picture; the cell's column and row, its distance and its site
  picture_cell : ℕ → ℕ → ℕ → List ℕ → ℕ → ℕ → ℕ → ℕ → Sample
  -- kind 3: W, H, d1, d2, the picture; the cell's column and row, its distance
  weighted_cell : ℕ → ℕ → ℕ → ℕ → List ℕ → ℕ → ℕ → ℕ → Sample
  -- W, H, kind, the costs; the distance of each cell
  cost_distances : ℕ → ℕ → ℕ → List ℕ → List ℕ → Sample
  -- W, H, kind, the costs; the site of each cell
  cost_sites : ℕ → ℕ → ℕ → List ℕ → List ℕ → Sample
  -- i, u, a, b; the changeover
  change : ℕ → ℕ → ℕ → ℕ → ℤ → Sample
  -- a, b, d; the clear map's byte
  clear : ℕ → ℕ → ℕ → ℕ → Sample
  -- W, H, the picture, the two ends; the width and the cells
  lane : ℕ → ℕ → List ℕ → ℕ → ℕ → ℕ → List ℕ → Sample

-- what a sample says of the rules
abbrev pub SampleHolds : Sample → Type 0
SampleHolds (picture_cell w h kind picture x y d site) =
    MapWord kind 0 0 w h picture x y d × MapSite kind 0 0 w h picture x y site
SampleHolds (weighted_cell w h d1 d2 picture x y d) = MapWord 3 d1 d2 w h picture x y d
SampleHolds (cost_distances w h kind costs words) =
    (x y : ℕ) → x < w → y < h → CostMapWord kind w h costs x y (get_or words (cell w x y) 0)
SampleHolds (cost_sites w h kind costs sites) =
    (x y : ℕ) → x < w → y < h → CostMapSite kind w h costs x y (get_or sites (cell w x y) 0)
SampleHolds (change i u a b p) = Changeover i u a b p
SampleHolds (clear a b d byte) = clear_byte a b d ≡ byte
SampleHolds (lane w h picture from to broad cells) = WidestLane w h picture from to broad cells

-- the starred lines in 01's order, and what 02 adds to them
abbrev pub starred : List Sample
starred =
    -- 1×1 bored: distance 0, site 0
    picture_cell 1 1 0 (1 ∷ []) 0 0 0 0
    -- 3×1, bores 0 and 2: cell 1 gets 1, site 0
    ∷ picture_cell 3 1 0 (1 ∷ 0 ∷ 1 ∷ []) 1 0 1 0
    -- 1×3 (W = 1), bores 0 and 2: cell 1 gets 1, site 0
    ∷ picture_cell 1 3 0 (1 ∷ 0 ∷ 1 ∷ []) 0 1 1 0
    -- kind 2, 3×2, bores (2,0) and (2,1): cell (0,1) gets 2, site 5
    ∷ picture_cell 3 2 2 (0 ∷ 0 ∷ 1 ∷ 0 ∷ 0 ∷ 1 ∷ []) 0 1 2 5
    -- 4×4, bores (3,0), (0,3), (2,2): cell 0 gets 8, site 10
    ∷ picture_cell 4 4 0 (0 ∷ 0 ∷ 0 ∷ 1 ∷ 0 ∷ 0 ∷ 0 ∷ 0 ∷ 0 ∷ 0 ∷ 1 ∷ 0 ∷ 1 ∷ 0 ∷ 0 ∷ 0 ∷ []) 0 0 8 10
    -- costs 9 0 9 9 9, kind 0: 1 0 1 4 9, every site 1; kind 1: 1 0 1 2 3
    ∷ cost_distances 5 1 0 (9 ∷ 0 ∷ 9 ∷ 9 ∷ 9 ∷ []) (1 ∷ 0 ∷ 1 ∷ 4 ∷ 9 ∷ [])
    ∷ cost_sites 5 1 0 (9 ∷ 0 ∷ 9 ∷ 9 ∷ 9 ∷ []) (1 ∷ 1 ∷ 1 ∷ 1 ∷ 1 ∷ [])
    ∷ cost_distances 5 1 1 (9 ∷ 0 ∷ 9 ∷ 9 ∷ 9 ∷ []) (1 ∷ 0 ∷ 1 ∷ 2 ∷ 3 ∷ [])
    -- costs 4 2 8 6 1 (001's input), kind 1: 3 2 3 2 1
    ∷ cost_distances 5 1 1 (4 ∷ 2 ∷ 8 ∷ 6 ∷ 1 ∷ []) (3 ∷ 2 ∷ 3 ∷ 2 ∷ 1 ∷ [])
    -- changeover 0, 1, a = 2,000,000, b = 0: −1,000,000; 510, 511, a = 0, b = 2,000,000: 1,000,510
    ∷ change 0 1 2_000_000 0 (negsuc 999_999)
    ∷ change 510 511 0 2_000_000 (pos 1_000_510)
    -- Document 02, E3: changeover 0, 1, a = 17,000,000, b = 0: −8,500,000
    ∷ change 0 1 17_000_000 0 (negsuc 8_499_999)
    -- a = 32, b = 128: d = 16 clear, 15 not
    ∷ clear 32 128 16 1
    ∷ clear 32 128 15 0
    -- 3×3, bore 4, lane 0 to 8: width 1, cells 0 1 2 5 8; lane 0 to 0: width 2
    ∷ lane 3 3 (0 ∷ 0 ∷ 0 ∷ 0 ∷ 1 ∷ 0 ∷ 0 ∷ 0 ∷ 0 ∷ []) 0 8 1 (0 ∷ 1 ∷ 2 ∷ 5 ∷ 8 ∷ [])
    ∷ lane 3 3 (0 ∷ 0 ∷ 0 ∷ 0 ∷ 1 ∷ 0 ∷ 0 ∷ 0 ∷ 0 ∷ []) 0 0 2 (0 ∷ [])
    -- 5×1, bore 2, lane 0 to 4: width 0, all five cells
    ∷ lane 5 1 (0 ∷ 0 ∷ 1 ∷ 0 ∷ 0 ∷ []) 0 4 0 (0 ∷ 1 ∷ 2 ∷ 3 ∷ 4 ∷ [])
    ∷ []

-- boards that tell 01 from its misreadings, under each of which the starred lines hold all the same: what 01 says of the
-- board, and what the misreading would say
abbrev pub telling : List Sample
telling =
    -- 2×2, bores (1,0) and (0,1): cell 0 gets 1, site 2. With dy before the column: site 1.
    picture_cell 2 2 0 (0 ∷ 1 ∷ 1 ∷ 0 ∷ []) 0 0 1 2
    -- 3×2, bore (1,0): cell (2,0) gets 1, site 1. With x·H + y for its number: site 2.
    ∷ picture_cell 3 2 0 (0 ∷ 1 ∷ 0 ∷ 0 ∷ 0 ∷ 0 ∷ []) 2 0 1 1
    -- 2×2, bore 0, cell 3: 2 by kind 1 and 1 by kind 2. With kind 1 as the larger: 1. With kind 2 as the sum: 2.
    ∷ picture_cell 2 2 1 (1 ∷ 0 ∷ 0 ∷ 0 ∷ []) 1 1 2 0
    ∷ picture_cell 2 2 2 (1 ∷ 0 ∷ 0 ∷ 0 ∷ []) 1 1 1 0
    -- 4×2, bore 0, weights 3, 4: cell (3,1) gets 10. With d1 and d2 exchanged: 11. With the max slanted: 18.
    ∷ weighted_cell 4 2 3 4 (1 ∷ 0 ∷ 0 ∷ 0 ∷ 0 ∷ 0 ∷ 0 ∷ 0 ∷ []) 3 1 10
    -- 2×2, costs 0 at (1,0) and (0,1), no feature else: sites 2 1 2 2. With the row before the column: 1 1 2 1.
    ∷ cost_sites 2 2 0 (4_294_967_295 ∷ 0 ∷ 0 ∷ 4_294_967_295 ∷ []) (2 ∷ 1 ∷ 2 ∷ 2 ∷ [])
    -- 1×2, costs 0 1, kind 1: both sites 0. With the least dy before the least row: 0 1.
    ∷ cost_sites 1 2 1 (0 ∷ 1 ∷ []) (0 ∷ 0 ∷ [])
    -- changeover 0, 2, a = b = 0: 1, where the two are equal. With < for ≤: 0.
    ∷ change 0 2 0 0 (pos 1)
    -- 3×1, bore 0, lane 2 to 2: width 4. With kind 1 for the words: 2.
    ∷ lane 3 1 (1 ∷ 0 ∷ 0 ∷ []) 2 2 4 (2 ∷ [])
    -- the same board, lanes 0 to 2 and 2 to 0: width 0. With the width over the inner cells: 1.
    ∷ lane 3 1 (1 ∷ 0 ∷ 0 ∷ []) 0 2 0 (0 ∷ 1 ∷ 2 ∷ [])
    ∷ lane 3 1 (1 ∷ 0 ∷ 0 ∷ []) 2 0 0 (2 ∷ 1 ∷ 0 ∷ [])
    -- 3×2, bore (1,0), lane 0 to 2: width 1, around the bore. With the fewest cells before the widest: 0, across it.
    ∷ lane 3 2 (0 ∷ 1 ∷ 0 ∷ 0 ∷ 0 ∷ 0 ∷ []) 0 2 1 (0 ∷ 3 ∷ 4 ∷ 5 ∷ 2 ∷ [])
    -- 3×4, bores 0 and 7, lane 1 to 10: cells 1 2 5 8 11 10. Compared from the far end: 1 4 3 6 9 10.
    ∷ lane 3 4 (1 ∷ 0 ∷ 0 ∷ 0 ∷ 0 ∷ 0 ∷ 0 ∷ 1 ∷ 0 ∷ 0 ∷ 0 ∷ 0 ∷ []) 1 10 1 (1 ∷ 2 ∷ 5 ∷ 8 ∷ 11 ∷ 10 ∷ [])
    ∷ []

-- the one claim: every entry of a list of samples holds
abbrev pub Shown : List Sample → Type 0
Shown [] = Unit {0}
Shown (s ∷ ss) = SampleHolds s × Shown ss

-- the picture whose one bore is in its first cell
abbrev pub first_bored : ℕ → ℕ → List ℕ
first_bored w h = 1 ∷ replicate (w * h - 1) 0

-- Document 02, E3: "The farthest word on a one-bore board is 8,380,418.": d is the word of the last cell of the largest
-- board whose one bore is in its first, and no word of kind 0 of a picture is greater, whatever the board and the bores
pub record FarthestWord (d : ℕ) : Type 0 where
  pub on_board : Sides 2_048 2_048
  pub attained : MapWord 0 0 0 2_048 2_048 (first_bored 2_048 2_048) 2_047 2_047 d
  pub greatest : (w h : ℕ) (picture : List ℕ) (x y word : ℕ)
      → Sides w h → x < w → y < h → MapWord 0 0 0 w h picture x y word → word ≤ d
