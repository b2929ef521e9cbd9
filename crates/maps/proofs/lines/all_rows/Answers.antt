use mathlib.Core.Path.{◌≡◌, refl, sym, ◌∙◌, subst}
use Prim.Native.Nat.{ℕ, ◌+◌, ◌-◌, ◌*◌, ◌≤◌}
use native.Mathlib.Omega.{arith}
use mathlib.Core.List.{List}
use lib.ListN.{length, take, drop}
use lib.Seq.{length-take-le, length_front}
use Rattle.rules.proofs.RowParts.{row_part_long}
use Rattle.rows.specs.Row.{Believed, RowMade}
use Rattle.maps.specs.Rows.{RowsMade}
use Rattle.maps.proofs.Rows.{rows_none, row_believed, rows_more}
use Rattle.maps.proofs.lines.all_rows.Goals.{In-loop-y}
use Rattle.maps.proofs.lines.all_rows.Goals as goal

-- the line that is lent has a value for each column
lent : (c : In-loop-y) → let w = c.args.board.w in length (take w c.loop-y.line) ≡ w
lent c = length-take-le _ _ (omega (arith, c.loop-y.invariant.1, c.args.board.sides.width_to))

-- and so have the rows of distances and sites
lent_row : (c : In-loop-y) (l l₀ : List ℕ) → let w = c.args.board.w in
    let at = c.loop-y.y * w in
    w * c.args.board.h ≤ length l₀ → length l ≡ length l₀ → length (take (at + w - at) (drop at l)) ≡ w
lent_row c l l₀ room long = row_part_long l refl c.loop-y-test.true (omega arith)

pub loop-y-init : goal.loop-y-init
loop-y-init c = (rows_none _ _ _, refl)

pub row_line-requires : goal.row_line-requires
row_line-requires c =
    let a = c.args in
    let p = c.requires in
    let i = c.loop-y.invariant in
    let w = lent (goal.at.row_line-requires c).In-loop-y in (
      rw c.cells-tail.ensures
          (subst (Believed (c.loop-y.y * a.board.w) (a.board.w * a.board.h) c.loop-y.scratch) (sym w)
          (row_believed a.board.sides p.3 p.2 c.loop-y-test.true i.0)),
      omega (arith, c.loop-y-test.true, a.board.sides.height_to),
      lent_row (goal.at.row_line-requires c).In-loop-y c.loop-y.distances a.distances.now p.0 i.0.distances_beyond.as_long ∙ sym w,
      lent_row (goal.at.row_line-requires c).In-loop-y c.loop-y.sites a.sites.now p.1 i.0.sites_beyond.as_long ∙ sym w,
    )

pub loop-y-preserved : goal.loop-y-preserved
loop-y-preserved c =
    let r = c.row_line in
    let a = c.args in
    let p = c.requires in
    let i = c.loop-y.invariant in
    let at = c.loop-y.y * a.board.w in
    let d = r.new.distances in
    let s = r.new.sites in
    let d_long = r.auto.distances
    ∙ lent_row (goal.at.loop-y-preserved c).In-loop-y c.loop-y.distances a.distances.now p.0 i.0.distances_beyond.as_long in
    let s_long = r.auto.sites
    ∙ lent_row (goal.at.loop-y-preserved c).In-loop-y c.loop-y.sites a.sites.now p.1 i.0.sites_beyond.as_long in
    let made = subst (λ n. RowMade a.g.now.kind c.loop-y.y at (a.board.w * a.board.h) n c.loop-y.scratch
    r.new.scratch d s) (lent (goal.at.loop-y-preserved c).In-loop-y) (rw c.cells-tail.ensures at r.ensures) in (
      rows_more a.board.sides d s c.loop-y-test.true p.0 p.1 d_long s_long i.0 made,
      length_front c.loop-y.line r.new.values a.board.w r.auto.values ∙ i.1,
    )

pub returns : goal.returns
returns c =
    let a = c.args in
    let all : c.loop-y.y ≡ a.board.h = omega arith in
    subst (λ y. RowsMade a.g.now.kind a.board.w a.board.h y a.scratch.now c.loop-y.scratch a.distances.now
    c.loop-y.distances a.sites.now c.loop-y.sites) all c.loop-y.invariant.0
