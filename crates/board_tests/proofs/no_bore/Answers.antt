-- `board_tests::no_bore` meets its contract. Assumes nothing.
use Rattle.std.proofs.Common.{rules, ◌↔◌, ◌≡◌, eqb, not, Any, IsTrue}
use Rattle.std.proofs.iter.runs.Made.{chains}
use mathlib.Core.Path.{ap}
use borrow.Author.Tests.{eqb-true, eq-eqb}
use Rattle.rules.specs.Refusals.{no_bore}
use Rattle.rules.proofs.Refusals.{any_told}
use Rattle.board_tests.proofs.no_bore.Goals as goal

pub returns : goal.returns
unfolding no_bore
returns c =
    let told : IsTrue c.contains.result ↔ Any (λ b. 1 ≡ b) c.args.picture.now = search (rules, chains) in
    ap not (any_told (eqb 1) (eq-eqb 1) (eqb-true 1) _ _ told)
