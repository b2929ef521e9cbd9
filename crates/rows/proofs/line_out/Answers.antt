-- `rows::line_out` meets its contract: the engine, the map words and the sites, one after the other. The row's words stand
-- before the tail, so the engine's use of the tail leaves them as they were. Assumes nothing.
use mathlib.Core.Path.{◌≡◌, ◌∙◌}
use Prim.Native.Nat.{◌+◌, ◌-◌}
use lib.ListN.{length}
use borrow.Rule.Slice.PartMut.{put_mid, same_len_mid}
use Rattle.rows.proofs.RowLine.{words_part, tail_length, words_stay, a_line, winners_fit, winners_chosen, line_out}
use Rattle.rows.proofs.line_out.Goals.{After-winners_of}
use Rattle.rows.proofs.line_out.Goals as goal

-- the row's words are where they were when the engine has used the tail
stay : (c : After-winners_of) → let a = c.args in let w = length a.values.now in
    words_part a.at w (put_mid a.tail (a.tail + w + w - a.tail) a.scratch.now c.winners_of.new.work)
    ≡ words_part a.at w a.scratch.now
stay c =
    let a = c.args in
    let k = a.tail + length a.values.now + length a.values.now - a.tail in
    let part = c.winners_of.new.work in
    words_stay c.requires.0.believed k part
    (same_len_mid a.tail k a.scratch.now part c.winners_of.auto.work)

pub winners_of-requires : goal.winners_of-requires
winners_of-requires c =
    let p = c.requires in
    (record { line = a_line p.0; room = tail_length p.0.believed }, p.2)

pub write_distances-requires : goal.write_distances-requires
write_distances-requires c =
    let p = c.requires in
    (a_line p.0, winners_fit _ p.0 c.winners_of.ensures, c.winners_of.auto.winners ∙ p.2, p.1)

pub write_sites-requires : goal.write_sites-requires
write_sites-requires c =
    let p = c.requires in
    rw (stay (goal.at.write_sites-requires c).After-winners_of) (winners_chosen _ p.0 c.winners_of.ensures (c.winners_of.auto.winners ∙ p.2))

pub returns : goal.returns
returns c =
    line_out _ c.requires.0 c.winners_of.ensures c.winners_of.new.work c.write_distances.ensures
    (rw (stay (goal.at.returns c).After-winners_of) at c.write_sites.ensures) c.winners_of.auto.work
