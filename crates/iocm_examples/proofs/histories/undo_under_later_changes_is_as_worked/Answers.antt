-- Each run is computed on histories as lists.
use Rattle.iocm_examples.proofs.Computed.SelectiveUndo.{cells_apart_is, paths_turned_answers, an_address_taken_answers}
use Rattle.iocm_examples.proofs.Computed.SelectiveUndo.{an_earlier_undone_answers, stood_on_and_busy_answers}
use Rattle.iocm_examples.proofs.Computed.SelectiveUndo.{not_last_and_busy_answers, nothing_in_common_answers}
use Rattle.iocm_examples.proofs.histories.undo_under_later_changes_is_as_worked.Goals as goal

pub returns-clause-apart : goal.returns-clause-apart
returns-clause-apart c = cells_apart_is

pub returns-clause-turned : goal.returns-clause-turned
returns-clause-turned c = paths_turned_answers

pub returns-clause-address : goal.returns-clause-address
returns-clause-address c = an_address_taken_answers

pub returns-clause-earlier : goal.returns-clause-earlier
returns-clause-earlier c = an_earlier_undone_answers

pub returns-clause-stood_on : goal.returns-clause-stood_on
returns-clause-stood_on c = stood_on_and_busy_answers

pub returns-clause-not_last : goal.returns-clause-not_last
returns-clause-not_last c = not_last_and_busy_answers

pub returns-clause-nothing : goal.returns-clause-nothing
returns-clause-nothing c = nothing_in_common_answers
