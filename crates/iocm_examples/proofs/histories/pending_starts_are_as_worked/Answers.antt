-- Each run is computed on histories as lists.
use Rattle.iocm_examples.proofs.Computed.Starts.{taken_back_answers, ended_before_it_began_answers, in_the_way_answers}
use Rattle.iocm_examples.proofs.Computed.Starts.{held_when_staged_answers}
use Rattle.iocm_examples.proofs.histories.pending_starts_are_as_worked.Goals as goal

pub returns-clause-taken_back : goal.returns-clause-taken_back
returns-clause-taken_back c = taken_back_answers

pub returns-clause-ended : goal.returns-clause-ended
returns-clause-ended c = ended_before_it_began_answers

pub returns-clause-in_the_way : goal.returns-clause-in_the_way
returns-clause-in_the_way c = in_the_way_answers

pub returns-clause-staged : goal.returns-clause-staged
returns-clause-staged c = held_when_staged_answers
