-- Rows, blocks and totals are printed as they are worked.
use Rattle.iocm_impact_text.proofs.Worked.{blocks_as_worked, rows_as_worked, totals_as_worked}
use Rattle.iocm_impact_text.proofs.laws.texts_are_as_worked.Goals as goal

pub returns-clause-rows : goal.returns-clause-rows
returns-clause-rows c = rows_as_worked

pub returns-clause-blocks : goal.returns-clause-blocks
returns-clause-blocks c = blocks_as_worked

pub returns-clause-totals : goal.returns-clause-totals
returns-clause-totals c = totals_as_worked
