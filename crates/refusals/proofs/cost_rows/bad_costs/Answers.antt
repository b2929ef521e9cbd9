-- `refusals::cost_rows::bad_costs` meets its contract. Assumes nothing.
use Rattle.std.proofs.Common.{rules, ◌≡◌, ◌↔◌, true, Any, IsTrue}
use Rattle.std.proofs.iter.runs.Made.{chains}
use Rattle.rules.specs.Refusals.{bad_cost}
use Rattle.rules.proofs.Refusals.{any_told}
use Rattle.refusals.proofs.cost_rows.bad_costs.Goals as goal

pub returns : goal.returns
returns c =
    let told : IsTrue c.any.result ↔ Any (λ cost. bad_cost cost ≡ true) c.args.costs.now = search (rules, chains) in
    any_told bad_cost (λ n e. e) (λ n e. e) _ _ told
