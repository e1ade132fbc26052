-- Each is computed on states as lists.
use Rattle.iocm_examples.proofs.Computed.Refusals.{keys_there_and_missing, a_busy_subchannel, pending_status}
use Rattle.iocm_examples.proofs.refusals.refusals_are_as_worked.Goals as goal

pub returns-clause-keys : goal.returns-clause-keys
returns-clause-keys c = keys_there_and_missing

pub returns-clause-busy : goal.returns-clause-busy
returns-clause-busy c = a_busy_subchannel

pub returns-clause-pending : goal.returns-clause-pending
returns-clause-pending c = pending_status
