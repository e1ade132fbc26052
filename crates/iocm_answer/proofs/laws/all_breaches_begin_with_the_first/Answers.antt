use Rattle.iocm_answer.proofs.BeginsAs.{begins_as_check}
use Rattle.iocm_answer.proofs.laws.all_breaches_begin_with_the_first.Goals as goal

pub returns : goal.returns
returns c = begins_as_check
