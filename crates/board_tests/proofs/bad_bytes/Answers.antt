-- `board_tests::bad_bytes` meets its contract: a bad byte is one above 1. Assumes nothing.
use Rattle.std.proofs.Common.{rules, ◌↔◌, ◌<◌, Any, IsTrue}
use Rattle.std.proofs.iter.runs.Made.{chains}
use Rattle.rules.specs.Refusals.{bad_byte}
use Rattle.rules.proofs.Refusals.{any_told, bad_above, above_bad}
use Rattle.board_tests.proofs.bad_bytes.Goals as goal

pub returns : goal.returns
returns c =
    let told : IsTrue c.any.result ↔ Any (λ b. 1 < b) c.args.picture.now = search (rules, chains) in
    any_told bad_byte bad_above above_bad _ _ told
