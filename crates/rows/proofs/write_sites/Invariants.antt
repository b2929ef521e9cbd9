-- `rows::write_sites` meets its contract. The loop's invariant: the places before the site's have their sites, and the
-- others still have their winners. Assumes nothing.
use lib.ListN.{length, get_or}
use Rattle.rules.specs.Board.{cell}
use Rattle.rules.proofs.Filling.{Filling}
use Rattle.rows.proofs.write_sites.Given as goal

abbrev pub invariant-loop-site : goal.invariant-loop-site
invariant-loop-site l =
    Filling (λ k. cell (length l.words) (get_or l.initial.sites k 0) (get_or l.words (get_or l.initial.sites k 0) 0))
    l.initial.sites l.sites l.site-index
