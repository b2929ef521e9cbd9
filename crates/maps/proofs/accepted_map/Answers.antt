-- `maps::accepted_map` meets its contract: the row lines for the kinds of lines, the scans for kind 3, which alone is left.
-- Assumes nothing.
use mathlib.Core.Path.{◌≡◌, subst}
use lib.ListN.{length}
use Rattle.rules.specs.Measures.{chamfer_kind}
use Rattle.rules.specs.Accepted.{PictureAccepted}
use Rattle.rules.specs.Calls.{buffers, PictureAfter}
use Rattle.rules.proofs.Measures.{has_parts}
use Rattle.maps.proofs.LeftKind.{chamfer_left}
use Rattle.maps.proofs.accepted_map.Goals.{In-Err}
use Rattle.maps.proofs.accepted_map.Goals as goal

-- what is left is kind 3
left : (c : In-Err) → c.args.a.kind ≡ chamfer_kind
left c = chamfer_left _ c.requires.kind_in c.in-Err.ensures.1

pub row_map-requires : goal.row_map-requires
row_map-requires c =
    let p = c.requires in
    record {
      sides = p.sides;
      kind_in = (has_parts c.in-Ok.kind).kind_in;
      weights = λ e. absurd ((has_parts c.in-Ok.kind).no_chamfer e);
      lent = p.lent;
      bytes = p.bytes;
      bored = p.bored;
    }

pub returns-in-Ok : goal.returns-in-Ok
returns-in-Ok c =
    let a = c.args in
    subst (λ k. PictureAfter a.board.w a.board.h k a.a.d1 a.a.d2 a.picture.now (buffers a.distances.now a.sites.now a.scratch.now)
    (buffers c.row_map.new.distances c.row_map.new.sites c.row_map.new.scratch)) c.in-Ok.ensures (c.row_map.ensures a.a.d1 a.a.d2)

pub invariant_of-chamfer : goal.invariant_of-chamfer
invariant_of-chamfer c = record { weights = c.requires.weights (left (goal.at.invariant_of-chamfer c).In-Err) }

pub scanned_map-requires : goal.scanned_map-requires
scanned_map-requires c =
    let a = c.args in
    subst
    (λ k. PictureAccepted a.board.w a.board.h k a.a.d1 a.a.d2 a.picture.now (length a.distances.now)
    (length a.sites.now) (length a.scratch.now))
    (left (goal.at.scanned_map-requires c).In-Err) c.requires

pub returns-in-Err : goal.returns-in-Err
returns-in-Err c = rw (left (goal.at.returns-in-Err c).In-Err) c.scanned_map.ensures
