use Rattle.iocm_console.proofs.Worked.{tables_as_worked}
use Rattle.iocm_console.proofs.laws.tables_are_as_worked.Goals as goal

pub returns : goal.returns
returns c = tables_as_worked
