-- The laws are proved of the definitions.
use Rattle.iocm_model.proofs.Change.RunsGoBack.{accepted_carry, stays_sound}
use Rattle.iocm_model.proofs.Change.Steps.{opening_is_sound, steps_stay_sound}
use Rattle.iocm_model.proofs.run_laws.states_stay_sound.Goals as goal

pub returns-clause-opening : goal.returns-clause-opening
returns-clause-opening c = opening_is_sound

pub returns-clause-edits : goal.returns-clause-edits
returns-clause-edits c = stays_sound

pub returns-clause-accepted : goal.returns-clause-accepted
returns-clause-accepted c = accepted_carry

pub returns-clause-steps : goal.returns-clause-steps
returns-clause-steps c = steps_stay_sound
