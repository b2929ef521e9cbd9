use native.Mathlib.Omega.{arith}
use Rattle.columns.proofs.Lowering.{top_done, two_rows, lowering_more, lowering_end}
use Rattle.columns.proofs.down.down_rows.Goals as goal

pub loop-start-init : goal.loop-start-init
loop-start-init c =
    let band = c.args.band in
    record {
      from = omega arith;
      to = band.board.sides.height_from;
      start_is = omega arith;
      done = top_done c.args.picture.now band.columns_in c.top_row.ensures;
    }

pub down_row-requires : goal.down_row-requires
down_row-requires c =
    let inside = two_rows c.loop-start.invariant (omega arith) in omega (arith, c.top_row.auto.words)

pub loop-start-preserved : goal.loop-start-preserved
loop-start-preserved c =
    let band = c.args.band in
    lowering_more c.loop-start.invariant band.board.sides band.columns_in (omega arith) c.down_row.ensures

pub returns : goal.returns
returns c = lowering_end c.loop-start.invariant c.args.band.board.sides (omega arith)
