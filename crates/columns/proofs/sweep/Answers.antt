-- `columns::sweep` meets its contract: a band swept down and then up has its columns' words. Assumes nothing.
use Rattle.columns.proofs.Bands.{swept}
use Rattle.columns.proofs.sweep.Goals as goal

pub returns : goal.returns
returns c = swept c.down_rows.ensures c.up_rows.ensures
