-- `figure_text::digit_count` meets its contract: the logarithm is that of a number that is not 0. Assumes nothing.
use Rattle.figure_text.proofs.Writing.{log_counts}
use Rattle.figure_text.proofs.digit_count.Goals as goal

pub returns : goal.returns
returns c =
    let l = c.ilog10.ensures in
    log_counts c.args.number c.ilog10.result l.bound (rw c.max.ensures at l.power_le) (rw c.max.ensures at l.next_power_gt)
