-- Runs of calls on the example deck, computed on histories as lists.
use Rattle.std.proofs.Common.{List, [], ◌∷◌, refl}
use Rattle.iocm_types.specs.declared.order.Order.TheVariants.{Start, Clear, Test, Store}
use Rattle.iocm_examples.specs.BaseDeck.{lpb, online_record, device_on_1000, device_key, subchannel}
use Rattle.iocm_examples.proofs.Listed.Trees.{in_group, in_choose, no_parts, parts_listed}
use Rattle.iocm_examples.proofs.Listed.Histories.{ListedCall, activating, undoes, redoes, shows}
use Rattle.iocm_examples.proofs.Computed.Edits.{plain_add, plain_delete}
use Rattle.iocm_examples.proofs.Computed.Runs.{changes, ordered, ended, enabled, made_by, AreRight, answers_are}
use Rattle.iocm_examples.proofs.Computed.Runs.{marks_are, number_is, record_is, live_is}
use Rattle.iocm_examples.specs.Histories.{GivesItsAnswers, LatestFirst, AChooseUndone, StepsElsewhere, PendingStatus}
use Rattle.iocm_examples.specs.Histories.{three_changes, empty_changes, a_path_comes_online, APathUndone, a_path_in_use}
use Rattle.iocm_examples.specs.Histories.{ABusyUndo, ABusyRedo, UndoneInTurn}

abbrev latest_first_calls : List ListedCall
latest_first_calls =
    changes (plain_delete (device_key 0x1001))
    ∷ changes (plain_add (device_on_1000 0x2000 0x04))
    ∷ undoes 1
    ∷ undoes 2
    ∷ undoes 1
    ∷ redoes 2
    ∷ redoes 1
    ∷ redoes 2
    ∷ []

pub latest_first_is : LatestFirst
unfolding made_by
latest_first_is =
    let right : AreRight latest_first_calls = (refl, (refl, tt)) in record {
      answers = answers_are latest_first_calls right;
      freed = number_is 2 latest_first_calls right 0x1001;
      used_again = number_is 2 latest_first_calls right 0x2000;
      back = number_is 5 latest_first_calls right 0x1001;
      gone = number_is 5 latest_first_calls right 0x2000;
      redone = number_is 8 latest_first_calls right 0x2000;
      deleted_again = record_is 8 latest_first_calls right (device_key 0x1001);
    }

abbrev a_choose_undone_calls : List ListedCall
a_choose_undone_calls =
    enabled (subchannel 1 0) 0x80 0
    ∷ ordered (subchannel 1 0) Start
    ∷ activating (in_choose (parts_listed (plain_delete (device_key 0x1000) ∷ plain_delete (device_key 0x1003) ∷ [])))
    (plain_delete (device_key 0x1003) ∷ [])
    ∷ ordered (subchannel 1 3) Store
    ∷ undoes 1
    ∷ ordered (subchannel 1 3) Store
    ∷ []

pub a_choose_undone_is : AChooseUndone
unfolding made_by
a_choose_undone_is =
    let right : AreRight a_choose_undone_calls = (refl, tt) in record {
      answers = answers_are a_choose_undone_calls right;
      stays = record_is 3 a_choose_undone_calls right (device_key 0x1000);
      deleted = record_is 3 a_choose_undone_calls right (device_key 0x1003);
      no_live = live_is 3 a_choose_undone_calls right (subchannel 1 3);
      back = record_is 5 a_choose_undone_calls right (device_key 0x1003);
      number = number_is 5 a_choose_undone_calls right 0x1003;
      live = live_is 5 a_choose_undone_calls right (subchannel 2 3);
    }

abbrev steps_elsewhere_calls : List ListedCall
steps_elsewhere_calls =
    enabled (subchannel 1 2) 0x80 7
    ∷ ordered (subchannel 1 2) Start
    ∷ changes (plain_delete (device_key 0x1003))
    ∷ ended (subchannel 1 2)
    ∷ ordered (subchannel 1 2) Test
    ∷ undoes 1
    ∷ ordered (subchannel 1 2) Store
    ∷ shows
    ∷ []

pub steps_elsewhere_is : StepsElsewhere
unfolding made_by
steps_elsewhere_is =
    let right : AreRight steps_elsewhere_calls = (refl, tt) in record {
      answers = answers_are steps_elsewhere_calls right;
      marks = marks_are 6 steps_elsewhere_calls right;
      live = live_is 6 steps_elsewhere_calls right (subchannel 1 2);
    }

abbrev pending_status_calls : List ListedCall
pending_status_calls =
    enabled (subchannel 1 1) 0x80 0
    ∷ ordered (subchannel 1 1) Start
    ∷ ended (subchannel 1 1)
    ∷ changes (plain_delete (device_key 0x1001))
    ∷ ordered (subchannel 1 1) Test
    ∷ changes (plain_delete (device_key 0x1001))
    ∷ []

pub pending_status_is : PendingStatus
unfolding made_by
pending_status_is =
    let right : AreRight pending_status_calls = (tt, (refl, tt)) in record {
      answers = answers_are pending_status_calls right;
      refused = number_is 4 pending_status_calls right 0x1001;
      deleted = number_is 6 pending_status_calls right 0x1001;
    }

abbrev three_changes_calls : List ListedCall
three_changes_calls =
    changes (plain_delete (device_key 0x1003))
    ∷ changes (plain_add (device_on_1000 0x1003 0x03))
    ∷ changes (plain_delete (device_key 0x1003))
    ∷ undoes 1
    ∷ undoes 2
    ∷ redoes 3
    ∷ undoes 3
    ∷ undoes 3
    ∷ undoes 2
    ∷ redoes 3
    ∷ redoes 2
    ∷ undoes 1
    ∷ redoes 3
    ∷ shows
    ∷ []

pub three_changes_answers : GivesItsAnswers three_changes
unfolding made_by
three_changes_answers =
    answers_are three_changes_calls (refl, (refl, (refl, tt)))

abbrev empty_changes_calls : List ListedCall
empty_changes_calls =
    activating (in_group no_parts) []
    ∷ undoes 1
    ∷ activating (in_choose no_parts) []
    ∷ undoes 99
    ∷ activating (in_group no_parts) []
    ∷ redoes 1
    ∷ redoes 99
    ∷ shows
    ∷ []

pub empty_changes_answers : GivesItsAnswers empty_changes
unfolding made_by
empty_changes_answers = answers_are empty_changes_calls (refl, (tt, (refl, tt)))

abbrev a_path_comes_online_calls : List ListedCall
a_path_comes_online_calls =
    enabled (subchannel 2 0) 0x40 0
    ∷ ordered (subchannel 2 0) Start
    ∷ changes (plain_add (online_record 0x51 lpb))
    ∷ ordered (subchannel 2 0) Start
    ∷ []

pub a_path_comes_online_answers : GivesItsAnswers a_path_comes_online
unfolding made_by
a_path_comes_online_answers = answers_are a_path_comes_online_calls (refl, tt)

abbrev a_path_undone_calls : List ListedCall
a_path_undone_calls =
    enabled (subchannel 2 0) 0x40 0
    ∷ changes (plain_add (online_record 0x51 lpb))
    ∷ enabled (subchannel 2 0) 0xC0 9
    ∷ undoes 1
    ∷ ordered (subchannel 2 0) Store
    ∷ redoes 1
    ∷ ordered (subchannel 2 0) Store
    ∷ []

pub a_path_undone_is : APathUndone
unfolding made_by
a_path_undone_is =
    let right : AreRight a_path_undone_calls = (refl, tt) in record {
      answers = answers_are a_path_undone_calls right;
      struck = marks_are 4 a_path_undone_calls right;
      back = marks_are 6 a_path_undone_calls right;
      undone = live_is 4 a_path_undone_calls right (subchannel 2 0);
      redone = live_is 6 a_path_undone_calls right (subchannel 2 0);
    }

abbrev a_path_in_use_calls : List ListedCall
a_path_in_use_calls =
    changes (plain_add (online_record 0x51 lpb))
    ∷ enabled (subchannel 2 0) 0x40 9
    ∷ undoes 1
    ∷ ordered (subchannel 2 0) Store
    ∷ redoes 1
    ∷ ordered (subchannel 2 0) Store
    ∷ ordered (subchannel 2 0) Start
    ∷ undoes 1
    ∷ []

pub a_path_in_use_answers : GivesItsAnswers a_path_in_use
unfolding made_by
a_path_in_use_answers = answers_are a_path_in_use_calls (refl, tt)

abbrev a_busy_undo_calls : List ListedCall
a_busy_undo_calls =
    changes (plain_add (device_on_1000 0x1004 0x04))
    ∷ enabled (subchannel 1 4) 0x80 0
    ∷ ordered (subchannel 1 4) Start
    ∷ undoes 1
    ∷ ordered (subchannel 1 4) Clear
    ∷ ended (subchannel 1 4)
    ∷ ordered (subchannel 1 4) Test
    ∷ undoes 1
    ∷ ordered (subchannel 1 4) Store
    ∷ redoes 1
    ∷ ordered (subchannel 1 4) Store
    ∷ []

pub a_busy_undo_is : ABusyUndo
unfolding made_by
a_busy_undo_is =
    let right : AreRight a_busy_undo_calls = (refl, tt) in record {
      answers = answers_are a_busy_undo_calls right;
      number = number_is 1 a_busy_undo_calls right 0x1004;
      refused = number_is 4 a_busy_undo_calls right 0x1004;
      struck = marks_are 8 a_busy_undo_calls right;
      gone = live_is 8 a_busy_undo_calls right (subchannel 1 4);
      back = marks_are 10 a_busy_undo_calls right;
      redone = live_is 10 a_busy_undo_calls right (subchannel 1 4);
    }

abbrev a_busy_redo_calls : List ListedCall
a_busy_redo_calls =
    changes (plain_delete (device_key 0x1001))
    ∷ undoes 1
    ∷ enabled (subchannel 2 1) 0x80 0
    ∷ ordered (subchannel 2 1) Start
    ∷ enabled (subchannel 1 1) 0x80 0
    ∷ ordered (subchannel 1 1) Start
    ∷ redoes 1
    ∷ ended (subchannel 1 1)
    ∷ ordered (subchannel 1 1) Test
    ∷ redoes 1
    ∷ ended (subchannel 2 1)
    ∷ ordered (subchannel 2 1) Test
    ∷ redoes 1
    ∷ ordered (subchannel 1 1) Store
    ∷ undoes 1
    ∷ ordered (subchannel 1 1) Store
    ∷ []

pub a_busy_redo_is : ABusyRedo
unfolding made_by
a_busy_redo_is =
    let right : AreRight a_busy_redo_calls = (refl, tt) in record {
      answers = answers_are a_busy_redo_calls right;
      marks = marks_are 15 a_busy_redo_calls right;
      live = live_is 15 a_busy_redo_calls right (subchannel 2 1);
    }

abbrev undone_in_turn_calls : List ListedCall
undone_in_turn_calls =
    changes (plain_add (device_on_1000 0x1004 0x04))
    ∷ enabled (subchannel 1 4) 0x80 5
    ∷ changes (plain_delete (device_key 0x1004))
    ∷ ordered (subchannel 1 4) Store
    ∷ undoes 2
    ∷ ordered (subchannel 1 4) Store
    ∷ undoes 1
    ∷ redoes 1
    ∷ ordered (subchannel 1 4) Store
    ∷ redoes 2
    ∷ ordered (subchannel 1 4) Store
    ∷ undoes 2
    ∷ ordered (subchannel 1 4) Store
    ∷ []

pub undone_in_turn_is : UndoneInTurn
unfolding made_by
undone_in_turn_is =
    let right : AreRight undone_in_turn_calls = (refl, (refl, tt)) in record {
      answers = answers_are undone_in_turn_calls right;
      both_undone = marks_are 7 undone_in_turn_calls right;
      first_redone = marks_are 8 undone_in_turn_calls right;
      both_redone = marks_are 10 undone_in_turn_calls right;
    }
