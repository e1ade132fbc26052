-- Runs in which changes are made in stages, computed on histories as lists.
use Rattle.std.proofs.Common.{List, [], ◌∷◌, refl, sym, ◌∙◌}
use Rattle.iocm_types.specs.declared.order.Order.TheVariants.{Start, Test, Store}
use Rattle.iocm_examples.specs.BaseDeck.{device_key, subchannel}
use Rattle.iocm_examples.proofs.Listed.States.{ListedEdit, same_by_listing}
use Rattle.iocm_examples.proofs.Listed.Trees.{one, in_group, in_choose, parts_listed}
use Rattle.iocm_examples.proofs.Listed.Histories.{ListedCall, activating, beginning, advancing, committing, aborting}
use Rattle.iocm_examples.proofs.Listed.Histories.{undoes, redoes, shows}
use Rattle.iocm_examples.proofs.Computed.Edits.{base_is, plain_delete}
use Rattle.iocm_examples.proofs.Computed.Runs.{changes, ordered, ended, enabled, made_by, AreRight, answers_are}
use Rattle.iocm_examples.proofs.Computed.Runs.{state_is, number_is, record_is}
use Rattle.iocm_examples.specs.Edits.{base_opened}
use Rattle.iocm_examples.specs.Histories.{GivesItsAnswers}
use Rattle.iocm_examples.specs.Stages.{held_and_aborted, decided_at_begin, CountedDown, LeftStaged}
use Rattle.iocm_examples.specs.Stages.{held_before_they_are_there, AbortedAtEachStage, PastByACommit}
use Rattle.iocm_examples.proofs.Computed.Edits.{the_0fff}
use Rattle.iocm_examples.proofs.Computed.Trees.{exchange_listed}

-- a Begin of one edit, and of the exchange
abbrev begins : ListedEdit → ListedCall
begins e = beginning (one e) (e ∷ [])

abbrev begins_exchange : ListedCall
begins_exchange = beginning (in_group (parts_listed exchange_listed)) exchange_listed

abbrev held_and_aborted_calls : List ListedCall
held_and_aborted_calls =
    enabled (subchannel 1 0) 0xC0 0
    ∷ begins (plain_delete (device_key 0x1003))
    ∷ advancing
    ∷ ordered (subchannel 1 3) Start
    ∷ ordered (subchannel 1 0) Start
    ∷ undoes 1
    ∷ aborting
    ∷ ordered (subchannel 1 3) Store
    ∷ committing
    ∷ []

pub held_and_aborted_answers : GivesItsAnswers held_and_aborted
unfolding made_by
held_and_aborted_answers = answers_are held_and_aborted_calls (refl, tt)

abbrev decided_at_begin_calls : List ListedCall
decided_at_begin_calls =
    enabled (subchannel 1 0) 0x80 0
    ∷ ordered (subchannel 1 0) Start
    ∷ beginning (in_choose (parts_listed (plain_delete (device_key 0x1000) ∷ plain_delete (device_key 0x1003) ∷ [])))
    (plain_delete (device_key 0x1003) ∷ [])
    ∷ ended (subchannel 1 0)
    ∷ ordered (subchannel 1 0) Test
    ∷ committing
    ∷ ordered (subchannel 1 3) Store
    ∷ ordered (subchannel 1 0) Store
    ∷ []

pub decided_at_begin_answers : GivesItsAnswers decided_at_begin
unfolding made_by
decided_at_begin_answers = answers_are decided_at_begin_calls (refl, tt)

abbrev counted_down_calls : List ListedCall
counted_down_calls =
    begins_exchange
    ∷ advancing
    ∷ advancing
    ∷ advancing
    ∷ advancing
    ∷ shows
    ∷ committing
    ∷ []

pub counted_down_is : CountedDown
unfolding made_by
counted_down_is =
    let right : AreRight counted_down_calls = (refl, tt) in record {
      answers = answers_are counted_down_calls right;
      before = record_is 6 counted_down_calls right (device_key 0x1003);
      committed = record_is 7 counted_down_calls right (device_key 0x1003);
    }

abbrev left_staged_calls : List ListedCall
left_staged_calls = begins (plain_delete (device_key 0x1003)) ∷ advancing ∷ []

pub left_staged_is : LeftStaged
unfolding made_by
left_staged_is =
    let right : AreRight left_staged_calls = (refl, tt) in record {
      answers = answers_are left_staged_calls right;
      state = same_by_listing _ base_opened (state_is 2 left_staged_calls right ∙ sym base_is);
    }

abbrev held_before_they_are_there_calls : List ListedCall
held_before_they_are_there_calls =
    begins the_0fff
    ∷ ordered (subchannel 1 4) Start
    ∷ ended (subchannel 1 4)
    ∷ aborting
    ∷ ordered (subchannel 1 4) Start
    ∷ []

pub held_before_they_are_there_answers : GivesItsAnswers held_before_they_are_there
unfolding made_by
held_before_they_are_there_answers = answers_are held_before_they_are_there_calls (refl, tt)

abbrev aborted_at_each_stage_calls : List ListedCall
aborted_at_each_stage_calls =
    begins_exchange
    ∷ aborting
    ∷ begins_exchange
    ∷ advancing
    ∷ aborting
    ∷ begins_exchange
    ∷ advancing
    ∷ advancing
    ∷ aborting
    ∷ begins_exchange
    ∷ advancing
    ∷ advancing
    ∷ advancing
    ∷ aborting
    ∷ activating (in_group (parts_listed exchange_listed)) exchange_listed
    ∷ []

pub aborted_at_each_stage_is : AbortedAtEachStage
unfolding made_by
aborted_at_each_stage_is =
    let right : AreRight aborted_at_each_stage_calls = (refl, (refl, (refl, (refl, (refl, tt))))) in record {
      answers = answers_are aborted_at_each_stage_calls right;
      none = same_by_listing _ base_opened (state_is 2 aborted_at_each_stage_calls right ∙ sym base_is);
      one = same_by_listing _ base_opened (state_is 5 aborted_at_each_stage_calls right ∙ sym base_is);
      two = same_by_listing _ base_opened (state_is 9 aborted_at_each_stage_calls right ∙ sym base_is);
      three = same_by_listing _ base_opened (state_is 14 aborted_at_each_stage_calls right ∙ sym base_is);
    }

abbrev past_by_a_commit_calls : List ListedCall
past_by_a_commit_calls =
    changes the_0fff
    ∷ undoes 1
    ∷ begins (plain_delete (device_key 0x1003))
    ∷ begins the_0fff
    ∷ activating (one the_0fff) (the_0fff ∷ [])
    ∷ aborting
    ∷ redoes 1
    ∷ undoes 1
    ∷ begins (plain_delete (device_key 0x1003))
    ∷ advancing
    ∷ committing
    ∷ redoes 1
    ∷ undoes 2
    ∷ ordered (subchannel 1 3) Store
    ∷ []

pub past_by_a_commit_is : PastByACommit
unfolding made_by
past_by_a_commit_is =
    let right : AreRight past_by_a_commit_calls = (refl, (refl, (refl, (refl, (refl, tt))))) in record {
      answers = answers_are past_by_a_commit_calls right;
      committed = number_is 11 past_by_a_commit_calls right 0x1003;
      undone = number_is 13 past_by_a_commit_calls right 0x1003;
    }
