-- Each run is computed on histories as lists.
use Rattle.iocm_examples.proofs.ComputedRuns.{numbers_anew_is, meanwhile_answers, seen_without_answers}
use Rattle.iocm_examples.proofs.WhereMet.{no_run_without_the_first}
use Rattle.iocm_examples.proofs.runs.runs_without_a_change_are_as_worked.Goals as goal

pub returns-clause-numbers : goal.returns-clause-numbers
returns-clause-numbers c = numbers_anew_is

pub returns-clause-seen : goal.returns-clause-seen
returns-clause-seen c = meanwhile_answers

pub returns-clause-without : goal.returns-clause-without
returns-clause-without c = seen_without_answers

pub returns-clause-no_run : goal.returns-clause-no_run
returns-clause-no_run c = no_run_without_the_first
