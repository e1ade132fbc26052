-- Each run is computed on histories as lists.
use Rattle.iocm_examples.proofs.Computed.Histories.{a_choose_undone_is, steps_elsewhere_is, pending_status_is}
use Rattle.iocm_examples.proofs.histories.steps_elsewhere_are_as_worked.Goals as goal

pub returns-clause-chosen : goal.returns-clause-chosen
returns-clause-chosen c = a_choose_undone_is

pub returns-clause-elsewhere : goal.returns-clause-elsewhere
returns-clause-elsewhere c = steps_elsewhere_is

pub returns-clause-pending : goal.returns-clause-pending
returns-clause-pending c = pending_status_is
