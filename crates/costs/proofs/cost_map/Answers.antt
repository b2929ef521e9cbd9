-- `costs::cost_map` meets its contract: a call that is refused leaves everything, and past the tests the kind is one of lines
-- and the map is made. Assumes nothing.
use mathlib.Core.Path.{sym}
use Rattle.rules.proofs.Refusals.{cost_accepted}
use Rattle.costs.proofs.Entry.{line_kind}
use Rattle.costs.proofs.cost_map.Goals as goal

pub returns-in_err-kind : goal.returns-in_err-kind
returns-in_err-kind c =
    let passed = cost_accepted _ _ _ _ _ _ _ (sym c.in_ok-board.ensures.number) in
    absurd (line_kind _ passed.kind_in c.in_err-kind.ensures.1)

pub accepted_map-requires : goal.accepted_map-requires
accepted_map-requires c =
    let sides = c.in_ok-board.ensures.board in
    rw (sides.0, sides.1, c.in_ok-kind.ensures)
    (cost_accepted _ _ _ _ _ _ _ (sym c.in_ok-board.ensures.number))
