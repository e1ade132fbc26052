-- Runs in which starts are pending and are taken back, computed on histories as lists.
use Rattle.std.proofs.Common.{List, [], ◌∷◌, refl}
use Rattle.iocm_types.specs.declared.order.Order.TheVariants.{Start, Cancel, Test, Store}
use Rattle.iocm_types.specs.declared.sub_id.SubId.{SubId}
use Rattle.iocm_model.specs.Operation.Step.{device_begin}
use Rattle.iocm_examples.specs.BaseDeck.{device_key, subchannel}
use Rattle.iocm_examples.specs.Histories.{GivesItsAnswers}
use Rattle.iocm_examples.specs.Starts.{taken_back, ended_before_it_began, in_the_way, held_when_staged}
use Rattle.iocm_examples.proofs.Listed.Histories.{ListedCall, stepping, beginning}
use Rattle.iocm_examples.proofs.Listed.States.{ListedEdit}
use Rattle.iocm_examples.proofs.Listed.Trees.{one}
use Rattle.iocm_examples.proofs.Computed.Edits.{plain_delete}
use Rattle.iocm_examples.proofs.Computed.Runs.{changes, ordered, ended, enabled, made_by, answers_are}

-- a device begin
abbrev begun : SubId → ListedCall
begun x = stepping x device_begin

abbrev taken_back_calls : List ListedCall
taken_back_calls =
    ordered (subchannel 1 0) Cancel
    ∷ enabled (subchannel 1 0) 0x80 7
    ∷ ordered (subchannel 1 0) Cancel
    ∷ begun (subchannel 1 0)
    ∷ ordered (subchannel 1 0) Start
    ∷ ordered (subchannel 1 0) Cancel
    ∷ ordered (subchannel 1 0) Store
    ∷ ordered (subchannel 1 0) Start
    ∷ begun (subchannel 1 0)
    ∷ begun (subchannel 1 0)
    ∷ ordered (subchannel 1 0) Cancel
    ∷ ended (subchannel 1 0)
    ∷ ordered (subchannel 1 0) Cancel
    ∷ ordered (subchannel 1 0) Test
    ∷ []

pub taken_back_answers : GivesItsAnswers taken_back
unfolding made_by
taken_back_answers = answers_are taken_back_calls tt

abbrev ended_before_it_began_calls : List ListedCall
ended_before_it_began_calls =
    enabled (subchannel 1 0) 0x80 0
    ∷ ordered (subchannel 1 0) Start
    ∷ ended (subchannel 1 0)
    ∷ begun (subchannel 1 0)
    ∷ ordered (subchannel 1 0) Test
    ∷ begun (subchannel 1 4)
    ∷ ordered (subchannel 1 4) Cancel
    ∷ []

pub ended_before_it_began_answers : GivesItsAnswers ended_before_it_began
unfolding made_by
ended_before_it_began_answers = answers_are ended_before_it_began_calls tt

abbrev in_the_way_calls : List ListedCall
in_the_way_calls =
    enabled (subchannel 1 0) 0x80 0
    ∷ ordered (subchannel 1 0) Start
    ∷ changes (plain_delete (device_key 0x1000))
    ∷ ordered (subchannel 1 0) Cancel
    ∷ changes (plain_delete (device_key 0x1000))
    ∷ []

pub in_the_way_answers : GivesItsAnswers in_the_way
unfolding made_by
in_the_way_answers = answers_are in_the_way_calls (tt, (refl, tt))

-- a Begin of one edit
abbrev begins : ListedEdit → ListedCall
begins e = beginning (one e) (e ∷ [])

abbrev held_when_staged_calls : List ListedCall
held_when_staged_calls =
    enabled (subchannel 1 3) 0x80 0
    ∷ ordered (subchannel 1 3) Start
    ∷ begins (plain_delete (device_key 0x1003))
    ∷ ordered (subchannel 1 3) Cancel
    ∷ begins (plain_delete (device_key 0x1003))
    ∷ ordered (subchannel 1 3) Cancel
    ∷ begun (subchannel 1 3)
    ∷ []

pub held_when_staged_answers : GivesItsAnswers held_when_staged
unfolding made_by
held_when_staged_answers = answers_are held_when_staged_calls (tt, (refl, tt))
