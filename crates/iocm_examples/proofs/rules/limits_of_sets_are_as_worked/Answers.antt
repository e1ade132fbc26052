-- Each is computed once the maps are listed.
use Rattle.iocm_examples.proofs.Computed.DefaultLimits.{limits_of_sets}
use Rattle.iocm_examples.proofs.rules.limits_of_sets_are_as_worked.Goals as goal

pub returns : goal.returns
returns c = record { limits = limits_of_sets }
