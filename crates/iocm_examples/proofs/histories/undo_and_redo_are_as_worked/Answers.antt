-- Each run is computed on histories as lists.
use Rattle.iocm_examples.proofs.Computed.Histories.{latest_first_is, three_changes_answers, empty_changes_answers}
use Rattle.iocm_examples.proofs.histories.undo_and_redo_are_as_worked.Goals as goal

pub returns-clause-latest_first : goal.returns-clause-latest_first
returns-clause-latest_first c = latest_first_is

pub returns-clause-three : goal.returns-clause-three
returns-clause-three c = three_changes_answers

pub returns-clause-empty : goal.returns-clause-empty
returns-clause-empty c = empty_changes_answers
