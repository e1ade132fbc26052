-- Each is computed on states as lists.
use Rattle.iocm_examples.proofs.Computed.Paths.{a_path_comes_online, a_path_list_is_turned, live_records_come_along}
use Rattle.iocm_examples.proofs.paths.paths_change_as_worked.Goals as goal

pub returns-clause-online : goal.returns-clause-online
returns-clause-online c = a_path_comes_online

pub returns-clause-turned : goal.returns-clause-turned
returns-clause-turned c = a_path_list_is_turned

pub returns-clause-comes_along : goal.returns-clause-comes_along
returns-clause-comes_along c = live_records_come_along
