-- Each run is computed on histories as lists.
use Rattle.iocm_examples.proofs.Computed.Stages.{held_and_aborted_answers, decided_at_begin_answers, counted_down_is}
use Rattle.iocm_examples.proofs.Computed.Stages.{left_staged_is, held_before_they_are_there_answers}
use Rattle.iocm_examples.proofs.Computed.Stages.{aborted_at_each_stage_is, past_by_a_commit_is}
use Rattle.iocm_examples.proofs.histories.stages_are_as_worked.Goals as goal

pub returns-clause-aborted : goal.returns-clause-aborted
returns-clause-aborted c = held_and_aborted_answers

pub returns-clause-decided : goal.returns-clause-decided
returns-clause-decided c = decided_at_begin_answers

pub returns-clause-counted : goal.returns-clause-counted
returns-clause-counted c = counted_down_is

pub returns-clause-left_staged : goal.returns-clause-left_staged
returns-clause-left_staged c = left_staged_is

pub returns-clause-to_come : goal.returns-clause-to_come
returns-clause-to_come c = held_before_they_are_there_answers

pub returns-clause-each_stage : goal.returns-clause-each_stage
returns-clause-each_stage c = aborted_at_each_stage_is

pub returns-clause-past : goal.returns-clause-past
returns-clause-past c = past_by_a_commit_is
