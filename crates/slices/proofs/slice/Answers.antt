-- `slices::slice` meets its contract: a start that refuses leaves everything, and past it the call works, since a kind that
-- the start lets pass has parts. Assumes nothing.
use mathlib.Core.Path.{sym}
use native.Mathlib.Omega.{arith}
use lib.ListN.{length}
use Rattle.rules.specs.declared.kind.LineKind.TheVariants.{Euclid, Manhattan, Chessboard}
use Rattle.rules.specs.Accepted.{SliceAccepted}
use Rattle.rules.proofs.SliceRows.{slice_accepted}
use Rattle.slices.proofs.slice.Goals.{In_ok-board}
use Rattle.slices.proofs.slice.Goals as goal

-- what the start lets pass
accepted : (c : In_ok-board) → let a = c.args in
    SliceAccepted a.w a.h a.kind a.line (length a.picture.now) (length a.distances.now) (length a.sites.now) (length a.scratch.now)
accepted c = slice_accepted _ _ _ _ _ _ _ _ (sym c.in_ok-board.ensures.number)

pub returns-in_err-kind : goal.returns-in_err-kind
returns-in_err-kind c =
    let A = accepted (goal.at.returns-in_err-kind c).In_ok-board in
    let none = c.in_err-kind.ensures.1 in
    absurd (omega (arith, A.kind_in, none Euclid, none Manhattan, none Chessboard))

pub accepted_slice-requires-clause-line_in : goal.accepted_slice-requires-clause-line_in
accepted_slice-requires-clause-line_in c =
    let A = accepted (goal.at.accepted_slice-requires-clause-line_in c).In_ok-board in
    omega (arith, A.line_in, c.in_ok-board.ensures.board)

pub accepted_slice-requires-clause-lent : goal.accepted_slice-requires-clause-lent
accepted_slice-requires-clause-lent c =
    let lent = (accepted (goal.at.accepted_slice-requires-clause-lent c).In_ok-board).lent in
    let same = c.in_ok-board.ensures.board in
    rw (same.0, same.1) (record {
      picture_is = lent.picture_is;
      distances_from = lent.distances_from;
      sites_from = lent.sites_from;
      scratch_from = omega (arith, lent.scratch_from);
    })
