-- The laws are proved of the definitions.
use Rattle.iocm_model.proofs.Change.Steps.{steps_elsewhere_pass, steps_elsewhere_pass_back, overwritten_steps_vanish}
use Rattle.iocm_model.proofs.step_laws.steps_elsewhere_pass.Goals as goal

pub returns-clause-forth : goal.returns-clause-forth
returns-clause-forth c = steps_elsewhere_pass

pub returns-clause-back : goal.returns-clause-back
returns-clause-back c = steps_elsewhere_pass_back

pub returns-clause-vanish : goal.returns-clause-vanish
returns-clause-vanish c = overwritten_steps_vanish
