-- `bench_records::bore_cell` meets its contract: a bored cell counts already, and a sound one is one more.
-- Assumes nothing.
use mathlib.Core.Path.{refl}
use Rattle.bench_records.proofs.Counting.{bored_anew}
use Rattle.bench_records.proofs.bore_cell.Goals as goal

pub returns : goal.returns
returns c = record { picture_is = refl; counted = bored_anew c.args.picture.now c.args.cell c.requires }
