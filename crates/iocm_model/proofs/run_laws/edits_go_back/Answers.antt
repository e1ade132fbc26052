-- The laws are proved of the definitions.
use Rattle.iocm_model.proofs.Change.EditsGoBack.{goes_back}
use Rattle.iocm_model.proofs.Change.InverseCells.{inverses_write_the_same}
use Rattle.iocm_model.proofs.Change.RunsGoBack.{inverses_accepted, run_goes_back}
use Rattle.iocm_model.proofs.run_laws.edits_go_back.Goals as goal

pub returns-clause-edit : goal.returns-clause-edit
returns-clause-edit c = goes_back

pub returns-clause-run : goal.returns-clause-run
returns-clause-run c = run_goes_back

pub returns-clause-accepted : goal.returns-clause-accepted
returns-clause-accepted c = inverses_accepted

pub returns-clause-cells : goal.returns-clause-cells
returns-clause-cells c = inverses_write_the_same
