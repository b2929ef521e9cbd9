-- `knob::open` meets its contract: each value is opened once, and a value that is bad refuses the setting.
-- Assumes nothing.
use Rattle.std.proofs.Common.{◌≡◌, None, Some, Err, rules}
use Rattle.rules.specs.declared.refusal.Refusal.TheVariants.{Setting}
use Rattle.knob.proofs.Opening.{pitch_bad, radius_bad, both_good}
use Rattle.knob.proofs.open.Goals as goal

pub returns-in_err-a : goal.returns-in_err-a
returns-in_err-a c =
    let bad : c.open_value.result ≡ None = search rules in
    let refused : c.from_residual.result ≡ Err Setting = search rules in
    rw refused (pitch_bad c.args.setting (rw bad at c.open_value.ensures))

pub returns-in_err-b : goal.returns-in_err-b
returns-in_err-b c =
    let bad : c.open_value-2.result ≡ None = search rules in
    let refused : c.from_residual-in_err-b.result ≡ Err Setting = search rules in
    rw refused (radius_bad c.args.setting (rw bad at c.open_value-2.ensures))

pub returns : goal.returns
returns c =
    let pitch : c.open_value.result ≡ Some c.in_ok-a.a = search rules in
    let radius : c.open_value-2.result ≡ Some c.in_ok-b.b = search rules in
    both_good c.args.setting (rw pitch at c.open_value.ensures) (rw radius at c.open_value-2.ensures)
