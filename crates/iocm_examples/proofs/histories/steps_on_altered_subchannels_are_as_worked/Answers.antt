-- Each run is computed on histories as lists.
use Rattle.iocm_examples.proofs.Computed.Histories.{a_path_comes_online_answers, a_path_undone_is}
use Rattle.iocm_examples.proofs.Computed.Histories.{a_path_in_use_answers, a_busy_undo_is, a_busy_redo_is}
use Rattle.iocm_examples.proofs.Computed.Histories.{undone_in_turn_is}
use Rattle.iocm_examples.proofs.histories.steps_on_altered_subchannels_are_as_worked.Goals as goal

pub returns-clause-online : goal.returns-clause-online
returns-clause-online c = a_path_comes_online_answers

pub returns-clause-undone : goal.returns-clause-undone
returns-clause-undone c = a_path_undone_is

pub returns-clause-in_use : goal.returns-clause-in_use
returns-clause-in_use c = a_path_in_use_answers

pub returns-clause-busy : goal.returns-clause-busy
returns-clause-busy c = a_busy_undo_is

pub returns-clause-busy_redo : goal.returns-clause-busy_redo
returns-clause-busy_redo c = a_busy_redo_is

pub returns-clause-in_turn : goal.returns-clause-in_turn
returns-clause-in_turn c = undone_in_turn_is
