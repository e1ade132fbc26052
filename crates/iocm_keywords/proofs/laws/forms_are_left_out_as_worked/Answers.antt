use Rattle.iocm_keywords.proofs.Worked.{lists, paths, subsystems}
use Rattle.iocm_keywords.proofs.laws.forms_are_left_out_as_worked.Goals as goal

pub returns-clause-subsystems : goal.returns-clause-subsystems
returns-clause-subsystems c = subsystems

pub returns-clause-paths : goal.returns-clause-paths
returns-clause-paths c = paths

pub returns-clause-lists : goal.returns-clause-lists
returns-clause-lists c = lists
