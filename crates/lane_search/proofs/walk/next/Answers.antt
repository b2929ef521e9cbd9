-- `lane_search::walk::next` meets its contract: the first side whose cell has the label leads to the least such cell, and
-- there is one. Assumes nothing.
use lib.ListN.{length}
use Rattle.std.proofs.Common.{rules}
use Rattle.std.specs.Option.{IsSomeAnd}
use Rattle.lane_flood.specs.Labelling.{at}
use Rattle.lane_search.specs.Course.{Down}
use Rattle.lane_search.proofs.Walking.{side_found}
use Rattle.lane_search.proofs.walk.next.Goals as goal
use Rattle.lane_search.proofs.walk.next.Goals.{After-find_map}

-- the search's answer
found : (c : After-find_map)
    → IsSomeAnd c.find_map.result (Down c.args.w (length c.args.labels.now) (at c.args.labels.now) c.args.c)
found c =
    let p = c.requires in
    side_found p.rows.from p.inside p.more p.descending _ c.find_map.ensures.runs
    (λ r from. rw (from, c.iter.ensures.rest) at (c.iter.ensures.runs r r.seen)) (search rules)
    (λ x o called. record { lies = search rules; only = λ q q_in lies leads. search rules })

pub unwrap-requires : goal.unwrap-requires
unwrap-requires c = let there = found c in search rules

pub returns : goal.returns
returns c = rw c.unwrap.ensures at (found (goal.at.returns c).After-find_map)
