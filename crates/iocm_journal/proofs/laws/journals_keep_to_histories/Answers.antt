-- The laws are proved of the definitions.
use Rattle.iocm_journal.proofs.GoingOn.{goes_on}
use Rattle.iocm_journal.proofs.Refused.{kept_the_same}
use Rattle.iocm_journal.proofs.laws.journals_keep_to_histories.Goals as goal

pub returns-clause-others : goal.returns-clause-others
returns-clause-others c = goes_on

pub returns-clause-same : goal.returns-clause-same
returns-clause-same c = kept_the_same
