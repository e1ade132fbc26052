-- Each run is computed on histories as lists.
use Rattle.iocm_examples.proofs.ComputedRuns.{put_back_answers, from_one_answers}
use Rattle.iocm_examples.proofs.runs.what_blocks_is_as_worked.Goals as goal

pub returns-clause-put_back : goal.returns-clause-put_back
returns-clause-put_back c = put_back_answers

pub returns-clause-from_one : goal.returns-clause-from_one
returns-clause-from_one c = from_one_answers
