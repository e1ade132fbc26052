-- Each run is computed on histories as lists.
use Rattle.iocm_examples.proofs.Computed.SelectiveUndo.{a_past_one_answers, a_later_undone_answers}
use Rattle.iocm_examples.proofs.Computed.SelectiveUndo.{put_back_at_once_answers, a_number_in_common_answers}
use Rattle.iocm_examples.proofs.Computed.SelectiveUndo.{two_numbers_for_a_while_is}
use Rattle.iocm_examples.proofs.histories.what_is_in_the_way_is_as_worked.Goals as goal

pub returns-clause-past : goal.returns-clause-past
returns-clause-past c = a_past_one_answers

pub returns-clause-later : goal.returns-clause-later
returns-clause-later c = a_later_undone_answers

pub returns-clause-put_back : goal.returns-clause-put_back
returns-clause-put_back c = put_back_at_once_answers

pub returns-clause-number : goal.returns-clause-number
returns-clause-number c = a_number_in_common_answers

pub returns-clause-two_numbers : goal.returns-clause-two_numbers
returns-clause-two_numbers c = two_numbers_for_a_while_is
