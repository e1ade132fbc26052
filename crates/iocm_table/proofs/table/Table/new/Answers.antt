use Rattle.iocm_table.proofs.Lookups.{no_rows}
use Rattle.iocm_table.proofs.table.Table.new.Goals as goal

pub returns-clause-rows : goal.returns-clause-rows
returns-clause-rows g c = no_rows g.met.K.TableKey.is_cmp c.new.result c.new.ensures.ordered c.new.ensures.empty
