-- `slices::accepted_slice` meets its contract: the lines that the budget and the rest allow, and then zeros after the cells'
-- words. Assumes nothing.
use Prim.Native.Nat.{◌≤◌}
use native.Mathlib.Omega.{arith}
use lib.ListN.{length}
use Rattle.std.proofs.Common.{rules}
use Rattle.slices.proofs.After.{tail_zeroed}
use Rattle.slices.proofs.accepted_slice.Goals as goal

pub returns : goal.returns
returns c =
    let scratch = c.lines_done-ended.new.scratch in
    let words = c.scratch_words-words in
    let cells = c.cells-cells in
    let room : words.result ≤ length scratch = omega (arith, words.ensures, c.requires.lent.scratch_from, c.lines_done-ended.auto.scratch) in
    c.lines_done-ended.ensures.zeroed _ _ c.reach.ensures
    (tail_zeroed scratch c.fill.new.self cells.ensures words.ensures room c.fill.auto.self
    (λ k l. let h = c.fill.ensures.clones k 0 l in search rules))
