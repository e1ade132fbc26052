-- Each run meets the premises of a law.
use Rattle.iocm_examples.proofs.WhereMet.{a_deletion_undone, a_path_redone, a_deletion_redone, a_deletion_in_stages_is}
use Rattle.iocm_examples.proofs.WhereMet.{a_deletion_given_up_is, under_a_later_change}
use Rattle.iocm_examples.proofs.runs.premises_are_met.Goals as goal

pub returns-clause-undone : goal.returns-clause-undone
returns-clause-undone c = a_deletion_undone

pub returns-clause-redone : goal.returns-clause-redone
returns-clause-redone c = a_path_redone

pub returns-clause-among : goal.returns-clause-among
returns-clause-among c = a_deletion_redone

pub returns-clause-in_stages : goal.returns-clause-in_stages
returns-clause-in_stages c = a_deletion_in_stages_is

pub returns-clause-given_up : goal.returns-clause-given_up
returns-clause-given_up c = a_deletion_given_up_is

pub returns-clause-later : goal.returns-clause-later
returns-clause-later c = under_a_later_change
