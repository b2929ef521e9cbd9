-- `refusals::cost_rows::all_marked` meets its contract. Assumes nothing.
use Rattle.std.proofs.Common.{rules, ◌≡◌, ◌↔◌, All, IsTrue}
use Rattle.std.proofs.iter.runs.Made.{chains}
use Rattle.rules.specs.Limits.{mark}
use Rattle.rules.proofs.Refusals.{marked_told}
use Rattle.refusals.proofs.cost_rows.all_marked.Goals as goal

pub returns : goal.returns
returns c =
    let told : IsTrue c.all.result ↔ All (λ cost. cost ≡ mark) c.args.costs.now = search (rules, chains) in
    marked_told _ _ told
