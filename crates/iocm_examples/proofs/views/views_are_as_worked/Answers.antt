-- Each is computed once the maps are listed.
use Rattle.iocm_examples.proofs.Computed.Views.{base_rows}
use Rattle.iocm_examples.proofs.views.views_are_as_worked.Goals as goal

pub returns-clause-rows : goal.returns-clause-rows
returns-clause-rows c = base_rows
