-- Runs in which changes are undone under later ones, computed on histories as lists.
use Rattle.std.proofs.Common.{None, List, [], ◌∷◌, map, refl}
use Rattle.iocm_types.specs.declared.order.Order.TheVariants.{Start, Store}
use Rattle.iocm_model.specs.Change.Edit.{modify}
use Rattle.iocm_examples.specs.BaseDeck.{lpa, lpb, path_record, css_path, online_record, device_on_1000, device_key}
use Rattle.iocm_examples.specs.BaseDeck.{subchannel, unit_on}
use Rattle.iocm_examples.proofs.Listed.Trees.{in_group, no_parts, parts_listed}
use Rattle.iocm_examples.proofs.Listed.States.{ListedEdit}
use Rattle.iocm_examples.proofs.Listed.Histories.{ListedCall, activating, undoes, redoes, shows}
use Rattle.iocm_examples.proofs.Computed.Edits.{plain_add, plain_delete, plain_modify}
use Rattle.iocm_examples.proofs.Computed.Runs.{changes, ordered, enabled, made_by, AreRight, answers_are, marks_are}
use Rattle.iocm_examples.proofs.Computed.Runs.{number_is, device_is}
use Rattle.iocm_examples.specs.Histories.{GivesItsAnswers}
use Rattle.iocm_examples.specs.SelectiveUndo.{CellsApart, paths_turned, an_address_taken, an_earlier_undone}
use Rattle.iocm_examples.specs.SelectiveUndo.{stood_on_and_busy, not_last_and_busy, nothing_in_common, a_past_one}
use Rattle.iocm_examples.specs.SelectiveUndo.{a_later_undone, put_back_at_once, unseen_device, a_number_in_common}
use Rattle.iocm_examples.specs.SelectiveUndo.{unit_with, path_of_css_1, device_on_two, of_lpc, TwoNumbersForAWhile}

abbrev cells_apart_calls : List ListedCall
cells_apart_calls =
    changes (plain_add (device_on_1000 0x0FFF 0x0F))
    ∷ changes (plain_add (device_on_1000 0x1004 0x04))
    ∷ undoes 1
    ∷ shows
    ∷ redoes 1
    ∷ []

pub cells_apart_is : CellsApart
unfolding made_by
cells_apart_is =
    let right : AreRight cells_apart_calls = (refl, (refl, tt)) in record {
      answers = answers_are cells_apart_calls right;
      marks = marks_are 3 cells_apart_calls right;
      gone = number_is 3 cells_apart_calls right 0x0FFF;
      stays = number_is 3 cells_apart_calls right 0x1004;
      back = number_is 5 cells_apart_calls right 0x0FFF;
      still = number_is 5 cells_apart_calls right 0x1004;
    }

abbrev paths_turned_calls : List ListedCall
paths_turned_calls =
    changes (plain_modify (unit_on 0x1000 (0x51 ∷ 0x50 ∷ []) None))
    ∷ changes (plain_add (device_on_1000 0x1004 0x04))
    ∷ undoes 1
    ∷ []

pub paths_turned_answers : GivesItsAnswers paths_turned
unfolding made_by
paths_turned_answers = answers_are paths_turned_calls (refl, (refl, tt))

abbrev an_address_taken_calls : List ListedCall
an_address_taken_calls =
    changes (plain_modify (device_on_1000 0x1003 0x05))
    ∷ changes (plain_add (device_on_1000 0x2000 0x03))
    ∷ undoes 1
    ∷ undoes 2
    ∷ undoes 1
    ∷ []

pub an_address_taken_answers : GivesItsAnswers an_address_taken
unfolding made_by
an_address_taken_answers = answers_are an_address_taken_calls (refl, (refl, tt))

abbrev an_earlier_undone_calls : List ListedCall
an_earlier_undone_calls =
    changes (plain_add (online_record 0x51 lpb))
    ∷ changes (plain_add (device_on_1000 0x1004 0x04))
    ∷ changes (plain_delete (device_key 0x1004))
    ∷ undoes 1
    ∷ undoes 3
    ∷ redoes 1
    ∷ undoes 3
    ∷ undoes 1
    ∷ []

pub an_earlier_undone_answers : GivesItsAnswers an_earlier_undone
unfolding made_by
an_earlier_undone_answers = answers_are an_earlier_undone_calls (refl, (refl, (refl, tt)))

abbrev stood_on_and_busy_calls : List ListedCall
stood_on_and_busy_calls =
    changes (plain_add (online_record 0x51 lpb))
    ∷ changes (plain_add (device_on_1000 0x1004 0x04))
    ∷ enabled (subchannel 2 0) 0x80 0
    ∷ ordered (subchannel 2 0) Start
    ∷ undoes 1
    ∷ []

pub stood_on_and_busy_answers : GivesItsAnswers stood_on_and_busy
unfolding made_by
stood_on_and_busy_answers = answers_are stood_on_and_busy_calls (refl, (refl, tt))

abbrev not_last_and_busy_calls : List ListedCall
not_last_and_busy_calls =
    changes (plain_delete (device_key 0x1001))
    ∷ changes (plain_delete (device_key 0x1003))
    ∷ undoes 2
    ∷ undoes 1
    ∷ enabled (subchannel 1 3) 0x80 0
    ∷ ordered (subchannel 1 3) Start
    ∷ redoes 2
    ∷ redoes 1
    ∷ redoes 2
    ∷ []

pub not_last_and_busy_answers : GivesItsAnswers not_last_and_busy
unfolding made_by
not_last_and_busy_answers = answers_are not_last_and_busy_calls (refl, (refl, tt))

abbrev nothing_in_common_calls : List ListedCall
nothing_in_common_calls =
    activating (in_group no_parts) []
    ∷ activating (in_group no_parts) []
    ∷ activating (in_group no_parts) []
    ∷ undoes 1
    ∷ undoes 3
    ∷ redoes 1
    ∷ redoes 3
    ∷ redoes 1
    ∷ shows
    ∷ []

pub nothing_in_common_answers : GivesItsAnswers nothing_in_common
unfolding made_by
nothing_in_common_answers = answers_are nothing_in_common_calls (refl, (refl, (refl, tt)))

abbrev a_past_one_calls : List ListedCall
a_past_one_calls =
    changes (plain_add (online_record 0x51 lpb))
    ∷ changes (plain_add (device_on_1000 0x1004 0x04))
    ∷ changes (plain_delete (device_key 0x1004))
    ∷ undoes 1
    ∷ activating (in_group no_parts) []
    ∷ undoes 3
    ∷ undoes 4
    ∷ undoes 3
    ∷ redoes 1
    ∷ changes (plain_add (online_record 0x51 lpb))
    ∷ undoes 3
    ∷ []

pub a_past_one_answers : GivesItsAnswers a_past_one
unfolding made_by
a_past_one_answers = answers_are a_past_one_calls (refl, (refl, (refl, (refl, (refl, tt)))))

abbrev a_later_undone_calls : List ListedCall
a_later_undone_calls =
    changes (plain_modify (unit_on 0x1000 (0x51 ∷ 0x50 ∷ []) None))
    ∷ changes (plain_add (device_on_1000 0x1004 0x04))
    ∷ activating (in_group no_parts) []
    ∷ undoes 1
    ∷ undoes 3
    ∷ undoes 1
    ∷ []

pub a_later_undone_answers : GivesItsAnswers a_later_undone
unfolding made_by
a_later_undone_answers = answers_are a_later_undone_calls (refl, (refl, (refl, tt)))

-- a change of several edits, all or none
abbrev changes_all : List ListedEdit → ListedCall
changes_all es = activating (in_group (parts_listed es)) es

abbrev put_back_at_once_calls : List ListedCall
put_back_at_once_calls =
    changes_all (plain_add (device_on_1000 0x1004 0x04) ∷ plain_delete (device_key 0x1004) ∷ [])
    ∷ changes (plain_add (device_on_1000 0x1004 0x04))
    ∷ changes (plain_delete (device_key 0x1004))
    ∷ undoes 1
    ∷ undoes 3
    ∷ undoes 1
    ∷ undoes 2
    ∷ undoes 1
    ∷ []

pub put_back_at_once_answers : GivesItsAnswers put_back_at_once
unfolding made_by
put_back_at_once_answers = answers_are put_back_at_once_calls (refl, (refl, (refl, tt)))

abbrev a_number_in_common_calls : List ListedCall
a_number_in_common_calls =
    changes_all (plain_add (path_record 0x52 (lpa ∷ []) []) ∷ plain_add (unit_on 0x2000 (0x52 ∷ []) None) ∷ [])
    ∷ changes (plain_add (unseen_device 0x2000 0))
    ∷ changes (plain_delete (device_key 0x2000))
    ∷ changes (plain_add (unseen_device 0x2001 1))
    ∷ changes (plain_delete (device_key 0x2001))
    ∷ shows
    ∷ undoes 3
    ∷ undoes 5
    ∷ undoes 4
    ∷ undoes 3
    ∷ []

pub a_number_in_common_answers : GivesItsAnswers a_number_in_common
unfolding made_by
a_number_in_common_answers = answers_are a_number_in_common_calls (refl, (refl, (refl, (refl, (refl, tt)))))

abbrev two_numbers_for_a_while_calls : List ListedCall
two_numbers_for_a_while_calls =
    changes_all (map plain_add device_on_two)
    ∷ changes (plain_modify (unit_with 0x2000 (css_path 0x52 ∷ [])))
    ∷ changes (record {
      action = modify (unit_with 0x2001 (css_path 0x53 ∷ path_of_css_1 ∷ []));
      places = (record { css = 1; set = 0; device = 0x3000 }, 7) ∷ [];
      lives = [];
    })
    ∷ changes (plain_modify (unit_with 0x2001 (css_path 0x53 ∷ [])))
    ∷ ordered (of_lpc 0) Store
    ∷ undoes 2
    ∷ ordered (of_lpc 0) Store
    ∷ ordered (of_lpc 7) Store
    ∷ undoes 4
    ∷ []

pub two_numbers_for_a_while_is : TwoNumbersForAWhile
unfolding made_by
two_numbers_for_a_while_is =
    let right : AreRight two_numbers_for_a_while_calls = (refl, (refl, (refl, (refl, tt)))) in record {
      answers = answers_are two_numbers_for_a_while_calls right;
      keeps = device_is 6 3 two_numbers_for_a_while_calls right 0;
      besides = device_is 6 3 two_numbers_for_a_while_calls right 7;
    }
