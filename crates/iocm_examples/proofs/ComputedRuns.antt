-- The runs, computed on histories as lists.
use Rattle.std.proofs.Common.{None, List, [], ◌∷◌, refl}
use Rattle.iocm_types.specs.declared.order.Order.TheVariants.{Store}
use Rattle.iocm_examples.specs.BaseDeck.{device_on_1000, device_key, subchannel, unit_on}
use Rattle.iocm_examples.specs.Histories.{GivesItsAnswers}
use Rattle.iocm_examples.proofs.Listed.Trees.{in_group, no_parts, parts_listed}
use Rattle.iocm_examples.proofs.Listed.States.{ListedEdit}
use Rattle.iocm_examples.proofs.Listed.Histories.{ListedCall, activating, undoes, redoes}
use Rattle.iocm_examples.proofs.Computed.Edits.{plain_add, plain_delete, plain_modify, the_online}
use Rattle.iocm_examples.proofs.Computed.Runs.{changes, ordered, made_by, AreRight, answers_are, number_is}
use Rattle.iocm_examples.proofs.Computed.SelectiveUndo.{cells_apart_is}
use Rattle.iocm_examples.specs.InTheWay.{put_back_by_a_later, numbers_from_one}
use Rattle.iocm_examples.specs.WithoutAChange.{NumbersAnew, seen_meanwhile, seen_without}

-- a change of several edits, all or none
abbrev changes_all : List ListedEdit → ListedCall
changes_all es = activating (in_group (parts_listed es)) es

abbrev put_back_calls : List ListedCall
put_back_calls =
    changes the_online
    ∷ changes_all (plain_delete (device_key 0x1000) ∷ plain_add (device_on_1000 0x1000 0x00) ∷ [])
    ∷ undoes 1
    ∷ undoes 2
    ∷ undoes 1
    ∷ []

pub put_back_answers : GivesItsAnswers put_back_by_a_later
unfolding made_by
put_back_answers = answers_are put_back_calls (refl, (refl, tt))

abbrev from_one_calls : List ListedCall
from_one_calls = redoes 0 ∷ undoes 0 ∷ activating (in_group no_parts) [] ∷ undoes 0 ∷ undoes 1 ∷ redoes 0 ∷ redoes 1
    ∷ []

pub from_one_answers : GivesItsAnswers numbers_from_one
unfolding made_by
from_one_answers = answers_are from_one_calls (refl, tt)

abbrev without_calls : List ListedCall
without_calls = changes (plain_add (device_on_1000 0x1004 0x04)) ∷ []

pub numbers_anew_is : NumbersAnew
unfolding made_by
numbers_anew_is =
    let right : AreRight without_calls = (refl, tt) in record {
      kept = cells_apart_is.stays;
      answers = answers_are without_calls right;
      anew = number_is 1 without_calls right 0x1004;
    }

abbrev meanwhile_calls : List ListedCall
meanwhile_calls =
    changes (plain_modify (unit_on 0x1000 (0x51 ∷ 0x50 ∷ []) None))
    ∷ changes (plain_add (device_on_1000 0x1004 0x04))
    ∷ ordered (subchannel 2 4) Store
    ∷ changes (plain_delete (device_key 0x1004))
    ∷ undoes 1
    ∷ []

pub meanwhile_answers : GivesItsAnswers seen_meanwhile
unfolding made_by
meanwhile_answers = answers_are meanwhile_calls (refl, (refl, (refl, tt)))

abbrev seen_without_calls : List ListedCall
seen_without_calls =
    changes (plain_add (device_on_1000 0x1004 0x04))
    ∷ ordered (subchannel 2 4) Store
    ∷ changes (plain_delete (device_key 0x1004))
    ∷ []

pub seen_without_answers : GivesItsAnswers seen_without
unfolding made_by
seen_without_answers = answers_are seen_without_calls (refl, (refl, tt))
