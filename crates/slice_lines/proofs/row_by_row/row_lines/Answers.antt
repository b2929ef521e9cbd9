use mathlib.Core.Path.{refl, ◌∙◌, ap}
use mathlib.Core.Logic.{◌≢◌}
use Prim.Native.Nat.{◌<◌}
use native.Mathlib.Omega.{arith}
use lib.Seq.{length_front}
use Rattle.rules.specs.Answers.{number_of, refusal_number}
use Rattle.rules.proofs.Pinned.{not_zero}
use Rattle.slice_lines.proofs.Rows.{once_number, rows_stay, rows_more}
use Rattle.slice_lines.proofs.row_by_row.row_lines.Goals as goal

pub returns-in-Err : goal.returns-in-Err
returns-in-Err c =
    let i = c.loop-y.invariant in
    let O = c.in-Err.ensures in
    let row_in : c.loop-y.y < c.args.board.h = omega arith in
    let some : refusal_number c.in-Err.refusal ≢ 0 = λ z. omega (arith, z, not_zero c.in-Err.refusal) in
    record {
      from_in = omega arith;
      to_in = omega arith;
      done = rows_stay _ i.done refl row_in O some refl refl;
      all_done = λ e. absurd (omega arith);
      stopped = λ _. (once_number _ i.done refl row_in O, some);
    }

pub loop-y-preserved : goal.loop-y-preserved
loop-y-preserved c =
    let p = c.requires in
    let i = c.loop-y.invariant in
    let made = c.one_row-row in
    let row_in : c.loop-y.y < c.args.board.h = omega arith in
    record {
      done = rows_more _ i.done refl row_in made.ensures (ap number_of c.in_default.is) (omega arith)
          p.distances_from p.sites_from made.auto.distances made.auto.sites;
      line_long = length_front c.loop-y.line made.new.values c.args.board.w made.auto.values ∙ i.line_long;
    }
