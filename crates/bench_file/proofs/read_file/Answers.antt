-- `bench_file::read_file` meets its contract: each `return` is the first row of the table that holds, and past 10 and 11
-- the measuring answers. Assumes nothing.
use Rattle.bench_file.proofs.read_file.Goals as goal

pub measure-requires : goal.measure-requires
measure-requires c = record { whole = cc; inside = cc }
