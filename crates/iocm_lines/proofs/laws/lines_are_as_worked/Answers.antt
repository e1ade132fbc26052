use Rattle.iocm_lines.proofs.Worked.{subchannels_as_worked, counts_as_worked, refusals_as_worked, altered_as_worked}
use Rattle.iocm_lines.proofs.Worked.{answers_as_worked}
use Rattle.iocm_lines.proofs.laws.lines_are_as_worked.Goals as goal

pub returns-clause-subchannels : goal.returns-clause-subchannels
returns-clause-subchannels c = subchannels_as_worked

pub returns-clause-counts : goal.returns-clause-counts
returns-clause-counts c = counts_as_worked

pub returns-clause-refusals : goal.returns-clause-refusals
returns-clause-refusals c = refusals_as_worked

pub returns-clause-altered : goal.returns-clause-altered
returns-clause-altered c = altered_as_worked

pub returns-clause-answers : goal.returns-clause-answers
returns-clause-answers c = answers_as_worked
