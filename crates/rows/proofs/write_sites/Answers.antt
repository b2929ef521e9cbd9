use mathlib.Core.Path.{◌≡◌, sym, ◌∙◌, ap, subst}
use Prim.Native.Nat.{◌<◌}
use native.Mathlib.Nat.{le_refl}
use native.Mathlib.Omega.{arith}
use lib.ListN.{length, get_or}
use Rattle.rules.proofs.Filling.{filling_none, filling_more}
use Rattle.rules.specs.Limits.{side_limit}
use Rattle.rules.specs.Board.{cell}
use Rattle.rows.proofs.write_sites.Goals.{In-loop-site}
use Rattle.rows.proofs.write_sites.Goals as goal

-- the word at the site's place is still its winner
winner : (c : In-loop-site) → get_or c.loop-site.sites c.loop-site.site-index 0 ≡ get_or c.args.sites.now c.loop-site.site-index 0
winner c = c.loop-site.invariant.rest c.loop-site.site-index (le_refl _)

-- and what is asked of it holds
chosen : (c : In-loop-site) → let words = c.args.words.now in let i = get_or c.loop-site.sites c.loop-site.site-index 0 in
    (i < length words) × (get_or words i 0 < side_limit)
chosen c =
    let p = c.requires in
    let words = c.args.words.now in
    let x = c.loop-site.site-index in
    let on_row : x < length words = omega (arith, c.loop-site-test.true, p.as_long) in
    subst (λ i. (i < length words) × (get_or words i 0 < side_limit)) (sym (winner c)) (p.column_in x on_row, p.named x on_row)

pub loop-site-init : goal.loop-site-init
loop-site-init c = filling_none

pub bounds-words-i : goal.bounds-words-i
bounds-words-i c = (chosen (goal.at.bounds-words-i c).In-loop-site).0

pub site_word-requires : goal.site_word-requires
site_word-requires c =
    let h = chosen (goal.at.site_word-requires c).In-loop-site in
    (c.requires.to, h.0, h.1)

pub loop-site-preserved : goal.loop-site-preserved
loop-site-preserved c =
    let words = c.args.words.now in
    filling_more c.loop-site.invariant c.loop-site-test.true
    (c.site_word.ensures
    ∙ ap (λ i. cell (length words) i (get_or words i 0)) (winner (goal.at.loop-site-preserved c).In-loop-site))

pub shape_of-sites : goal.shape_of-sites
shape_of-sites c = c.loop-site.invariant.as_long

pub returns : goal.returns
returns c =
    let i = c.loop-site.invariant in
    let p = c.requires in
    record { site = λ k h. i.done k (omega (arith, c.loop-site-test.false, i.as_long, p.as_long)) }
