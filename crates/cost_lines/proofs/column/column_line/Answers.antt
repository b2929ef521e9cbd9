-- `cost_lines::column::column_line` meets its contract: gather, engine and scatter, one after the other. The cells stand
-- before the tail, so the engine's use of the tail leaves them as they were. Assumes nothing.
use mathlib.Core.Path.{◌≡◌, ◌∙◌, sym}
use Prim.Native.Nat.{◌+◌, ◌-◌, ◌*◌}
use native.Mathlib.Omega.{arith}
use lib.ListN.{length}
use Rattle.rules.proofs.Parts.{part_length}
use Rattle.cost_lines.proofs.Picture.{accepted}
use Rattle.cost_lines.proofs.ColumnLine.{column_line, column_more}
use Rattle.cost_lines.proofs.column.column_line.Goals.{After-gather}
use Rattle.cost_lines.proofs.column.column_line.Goals as goal

-- the values of the column are as many as its rows
long : (c : After-gather) → length c.gather.new.values ≡ c.args.picture.now.board.h
long c = c.gather.auto.values ∙ c.requires.values_long

pub winners_of-requires : goal.winners_of-requires
winners_of-requires c =
    let p = c.requires in
    let b = c.args.picture.now.board in
    let rows = long (goal.at.winners_of-requires c).After-gather in (
      record {
        line = column_line _ (accepted c.args.picture.now) p.column_in rows c.gather.ensures;
        room = part_length {a = b.w * b.h} {e = b.w * b.h + b.h + b.h} c.args.scratch.now (omega arith)
            (omega (arith, p.scratch_long)) ∙ omega (arith, rows);
      },
      p.winners_long ∙ sym rows,
    )

pub returns : goal.returns
returns c =
    let p = c.requires in
    let b = c.args.picture.now.board in
    column_more _ (accepted c.args.picture.now) p.column_in (long (goal.at.returns c).After-gather) c.gather.ensures
    (b.w * b.h + b.h + b.h - b.w * b.h) c.winners_of.new.work p.scratch_long c.winners_of.ensures c.scatter.ensures
