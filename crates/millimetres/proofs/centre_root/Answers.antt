-- `millimetres::centre_root` meets its contract: it is refused only for a pitch that opens to no number. Assumes nothing.
use Rattle.std.proofs.Common.{◌≡◌, None, Err, rules}
use Rattle.rules.specs.declared.refusal.Refusal.TheVariants.{Setting}
use Rattle.rules.specs.Millimetres.{word_32}
use Rattle.millimetres.proofs.Telling.{shut}
use Rattle.millimetres.proofs.centre_root.Goals as goal

pub returns-in_err-ok_or-clause-bad : goal.returns-in_err-ok_or-clause-bad
returns-in_err-ok_or-clause-bad c =
    let bad : c.open_value.result ≡ None = search rules in
    let refused : c.from_residual.result ≡ Err Setting = search rules in
    rw refused (shut (word_32 c.args.pitch) (rw bad at c.open_value.ensures))
