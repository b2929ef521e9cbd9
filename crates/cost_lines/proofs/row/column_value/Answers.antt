-- `cost_lines::row::column_value` meets its contract: the mark stands for the line limit, and any other word names a cell
-- whose cost is added to its difference of rows, lifted. Assumes nothing.
use mathlib.Core.Path.{◌≡◌, ◌∙◌, ap}
use mathlib.Core.Logic.{⊎_elim}
use Prim.Native.Nat.{◌<◌}
use native.Mathlib.Omega.{arith}
use borrow.Author.Tests.{ne_eqb}
use lib.ListN.{length}
use Rattle.rules.specs.Limits.{mark}
use Rattle.rules.specs.Board.{cell, away}
use Rattle.rules.proofs.Refusals.{getD_within}
use Rattle.gauge.specs.Line.{measured}
use Rattle.cost_lines.proofs.row.column_value.Goals.{After-abs_diff}
use Rattle.cost_lines.proofs.row.column_value.Goals as goal

-- what lies between the rows
between : (c : After-abs_diff) → c.abs_diff.result ≡ away c.args.y c.args.word
unfolding away
between c = omega (arith, c.abs_diff.ensures)

pub returns : goal.returns
returns c =
    let a = c.args in
    let w = a.picture.now.board.w in
    let costs = a.picture.now.costs.now in
    let inside : cell w a.i a.word < length costs =
    ⊎_elim (λ l. l.1) (λ marked. absurd (c.if-word-eq-MARK.false marked)) c.requires.priced in
    let lift = c.lifted.ensures.lift ∙ ap (measured a.picture.now.g.now.kind).lift (between (goal.at.returns c).After-abs_diff) in
    let cost = getD_within costs (cell w a.i a.word) 0 mark inside in
    rw (ne_eqb a.word mark c.if-word-eq-MARK.false) (omega (arith, lift, cost, c.from.ensures))
