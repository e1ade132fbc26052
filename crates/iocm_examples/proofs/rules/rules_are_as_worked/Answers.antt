-- Each is computed once the maps are listed.
use Rattle.iocm_examples.proofs.Computed.Rules.{base_keeps_the_rules, a_dedicated_path_of_two, a_unit_on_nine_paths}
use Rattle.iocm_examples.proofs.Computed.Rules.{a_device_of_nine_units, a_limit_of_three, the_other_rules}
use Rattle.iocm_examples.proofs.Computed.Rules.{at_the_bounds}
use Rattle.iocm_examples.proofs.rules.rules_are_as_worked.Goals as goal

pub returns-clause-base : goal.returns-clause-base
returns-clause-base c = base_keeps_the_rules

pub returns-clause-dedicated : goal.returns-clause-dedicated
returns-clause-dedicated c = a_dedicated_path_of_two

pub returns-clause-nine_paths : goal.returns-clause-nine_paths
returns-clause-nine_paths c = a_unit_on_nine_paths

pub returns-clause-nine_units : goal.returns-clause-nine_units
returns-clause-nine_units c = a_device_of_nine_units

pub returns-clause-limit : goal.returns-clause-limit
returns-clause-limit c = a_limit_of_three

pub returns-clause-others : goal.returns-clause-others
returns-clause-others c = the_other_rules

pub returns-clause-bounds : goal.returns-clause-bounds
returns-clause-bounds c = at_the_bounds
