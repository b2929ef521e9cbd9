-- The type of a cost picture keeps what an accepted call has. That no cost is bad, and that not every cell is marked, it keeps
-- as the tests say them: a fact that a type keeps must have one proof, and the cell that has a cost may be any of several.
-- Assumes nothing.
use mathlib.Core.Path.{◌≡◌, ◌∙◌}
use mathlib.Core.Bool.{false}
use mathlib.Core.List.{List}
use Prim.Native.Nat.{ℕ, ◌<◌}
use native.Mathlib.Nat.{le_refl}
use native.Mathlib.Omega.{arith}
use lib.ListN.{length}
use Rattle.rules.specs.Limits.{mark}
use Rattle.rules.specs.Board.{cell}
use Rattle.rules.specs.Answers.{kind_number}
use Rattle.rules.specs.Refusals.{any, bad_cost, all_marked}
use Rattle.rules.proofs.Board.{cell_in}
use Rattle.rules.proofs.Refusals.{costs_passes, costs_good, unmarked_somewhere, unmarked_good, getD_within}
use Rattle.cost_lines.specs.declared.CostPicture.{CostPicture}
use Rattle.cost_lines.specs.After.{FitAccepted}

-- a cost picture has passed the tests
pub accepted : (p : CostPicture) → FitAccepted (kind_number p.g.now.kind) p.board.w p.board.h p.costs.now
accepted p =
    record {
      sides = p.board.sides;
      kind_in = p.kind_in;
      lent =
          record {
            picture_is = p.as_long;
            distances_from = le_refl _;
            sites_from = le_refl _;
            scratch_from = le_refl _;
          };
      costs_in = costs_passes p.costs.now p.costs_in;
      unmarked = unmarked_somewhere p.board.w p.board.h p.costs.now p.board.sides.width_from p.as_long p.unmarked;
    }

module _ {kind w h : ℕ} {costs : List ℕ} (P : FitAccepted kind w h costs) where
  -- of one that has passed them no cost is bad
  pub none_bad : any bad_cost costs ≡ false
  none_bad = costs_good costs P.costs_in

  -- and not every cell is marked
  pub some_unmarked : all_marked costs ≡ false
  some_unmarked =
      let (i, j, column_in, row_in, unmarked) = P.unmarked in
      let within : cell w i j < length costs = omega (arith, cell_in column_in row_in, P.lent.picture_is) in
      unmarked_good costs (cell w i j, within, λ e. unmarked (getD_within costs (cell w i j) mark 0 within ∙ e))
