-- Each is computed on states as lists.
use Rattle.iocm_examples.proofs.Computed.Effects.{an_inverse, effects}
use Rattle.iocm_examples.proofs.effects.effects_are_as_worked.Goals as goal

pub returns-clause-inverse : goal.returns-clause-inverse
returns-clause-inverse c = an_inverse

pub returns-clause-effects : goal.returns-clause-effects
returns-clause-effects c = effects
