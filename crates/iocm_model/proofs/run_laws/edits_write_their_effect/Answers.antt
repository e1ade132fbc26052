-- The laws are proved of the definitions.
use Rattle.iocm_model.proofs.Change.RunsGoBack.{writes_its_effect, puts_back}
use Rattle.iocm_model.proofs.run_laws.edits_write_their_effect.Goals as goal

pub returns-clause-forth : goal.returns-clause-forth
returns-clause-forth c = writes_its_effect

pub returns-clause-back : goal.returns-clause-back
returns-clause-back c = puts_back
