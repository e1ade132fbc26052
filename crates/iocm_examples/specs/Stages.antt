-- Worked runs in which changes are made in stages, as they are stated by hand.
use Rattle.std.specs.Prelude.{◌≡◌, true, false, [], ◌∷◌, None, Some}
use Rattle.std.specs.FinMap.{get}
use Rattle.iocm_types.specs.declared.answer.Answer.TheVariants.{Held, Changed, Staged, Left, Aborted}
use Rattle.iocm_types.specs.declared.answer.Answer.TheVariants.{Undone, Redone, Ended}
use Rattle.iocm_types.specs.declared.order.Order.TheVariants.{Start, Test, Store}
use Rattle.iocm_types.specs.declared.refused.At.TheVariants.{Nothing}
use Rattle.iocm_types.specs.declared.rule.Rule.TheVariants.{J3, O1, O2}
use Rattle.iocm_model.specs.Change.InverseTree.{parts_of}
use Rattle.iocm_model.specs.Change.Tree.{leaf, group, choose}
use Rattle.iocm_history.specs.Entry.{activate, begin, advance, commit, abort, undo, redo, show}
use Rattle.iocm_examples.specs.BaseDeck.{device_on_1000, device_key, subchannel}
use Rattle.iocm_examples.specs.Edits.{base_opened, deleted, add_0fff}
use Rattle.iocm_examples.specs.Histories.{Script, GivesItsAnswers, after, number_of, change_by, orders}
use Rattle.iocm_examples.specs.Histories.{ends, enables, code, status, refused, stored}
use Rattle.iocm_examples.specs.Trees.{exchange}

-- while a change of 1003 is staged its subchannels are held, others go on, and undo is refused; an
-- Abort gives them up
abbrev pub held_and_aborted : Script
held_and_aborted =
    (enables (subchannel 1 0) 0xC0 0, code 0)
    ∷ (begin (leaf (deleted (device_key 0x1003))), Staged 1)
    ∷ (advance, Left 0)
    ∷ (orders (subchannel 1 3) Start, Held)
    ∷ (orders (subchannel 1 0) Start, code 0)
    ∷ (undo 1, refused O1 Nothing)
    ∷ (abort, Aborted)
    ∷ (orders (subchannel 1 3) Store, stored 0x1003 0xC0 0xC0 false 0)
    ∷ (commit, refused O2 Nothing)
    ∷ []

-- a Choose is decided at the Begin: the device that was in use then stays, though it is quiet at
-- the Commit
abbrev pub decided_at_begin : Script
decided_at_begin =
    (enables (subchannel 1 0) 0x80 0, code 0)
    ∷ (orders (subchannel 1 0) Start, code 0)
    ∷ (begin (choose (parts_of (deleted (device_key 0x1000) ∷ deleted (device_key 0x1003) ∷ []))), Staged 1)
    ∷ (ends (subchannel 1 0), Ended true)
    ∷ (orders (subchannel 1 0) Test, status 9)
    ∷ (commit, Changed 1)
    ∷ (orders (subchannel 1 3) Store, code 3)
    ∷ (orders (subchannel 1 0) Store, stored 0x1000 0xC0 0x80 true 0)
    ∷ []

-- edits are counted down, and not below none
abbrev pub counted_down : Script
counted_down =
    (begin (group (parts_of exchange)), Staged 3)
    ∷ (advance, Left 2)
    ∷ (advance, Left 1)
    ∷ (advance, Left 0)
    ∷ (advance, Left 0)
    ∷ (show, refused O1 Nothing)
    ∷ (commit, Changed 1)
    ∷ []

pub record CountedDown : Type 0 where
  pub answers : GivesItsAnswers counted_down
  pub before : get (after 6 counted_down).config (device_key 0x1003) ≡ Some (device_on_1000 0x1003 0x03)
  pub committed : get (after 7 counted_down).config (device_key 0x1003) ≡ Some (device_on_1000 0x1003 0x02)

-- what is staged and advanced, and neither committed nor aborted, is no part of the state
abbrev pub left_staged : Script
left_staged = (begin (leaf (deleted (device_key 0x1003))), Staged 1) ∷ (advance, Left 0) ∷ []

pub record LeftStaged : Type 0 where
  pub answers : GivesItsAnswers left_staged
  pub state : after 2 left_staged ≡ base_opened

-- subchannels that are to come are held too, orders and device ends
abbrev pub held_before_they_are_there : Script
held_before_they_are_there =
    (begin (leaf add_0fff), Staged 1)
    ∷ (orders (subchannel 1 4) Start, Held)
    ∷ (ends (subchannel 1 4), Held)
    ∷ (abort, Aborted)
    ∷ (orders (subchannel 1 4) Start, code 3)
    ∷ []

-- an Abort after none, one, two and three Advances: the next change is number 1
abbrev pub aborted_at_each_stage : Script
aborted_at_each_stage =
    (begin (group (parts_of exchange)), Staged 3)
    ∷ (abort, Aborted)
    ∷ (begin (group (parts_of exchange)), Staged 3)
    ∷ (advance, Left 2)
    ∷ (abort, Aborted)
    ∷ (begin (group (parts_of exchange)), Staged 3)
    ∷ (advance, Left 2)
    ∷ (advance, Left 1)
    ∷ (abort, Aborted)
    ∷ (begin (group (parts_of exchange)), Staged 3)
    ∷ (advance, Left 2)
    ∷ (advance, Left 1)
    ∷ (advance, Left 0)
    ∷ (abort, Aborted)
    ∷ (activate (group (parts_of exchange)), Changed 1)
    ∷ []

-- and the machine is as it was opened each time
pub record AbortedAtEachStage : Type 0 where
  pub answers : GivesItsAnswers aborted_at_each_stage
  pub none : after 2 aborted_at_each_stage ≡ base_opened
  pub one : after 5 aborted_at_each_stage ≡ base_opened
  pub two : after 9 aborted_at_each_stage ≡ base_opened
  pub three : after 14 aborted_at_each_stage ≡ base_opened

-- an undone change is not past by a Begin and an Abort, but by a Commit; a second Begin and an
-- activation wait for the end of the first
abbrev pub past_by_a_commit : Script
past_by_a_commit =
    (change_by add_0fff, Changed 1)
    ∷ (undo 1, Undone 1)
    ∷ (begin (leaf (deleted (device_key 0x1003))), Staged 1)
    ∷ (begin (leaf add_0fff), refused O1 Nothing)
    ∷ (activate (leaf add_0fff), refused O1 Nothing)
    ∷ (abort, Aborted)
    ∷ (redo 1, Redone 1)
    ∷ (undo 1, Undone 1)
    ∷ (begin (leaf (deleted (device_key 0x1003))), Staged 1)
    ∷ (advance, Left 0)
    ∷ (commit, Changed 2)
    ∷ (redo 1, refused J3 Nothing)
    ∷ (undo 2, Undone 2)
    ∷ (orders (subchannel 1 3) Store, stored 0x1003 0xC0 0xC0 false 0)
    ∷ []

pub record PastByACommit : Type 0 where
  pub answers : GivesItsAnswers past_by_a_commit
  pub committed : number_of 0x1003 (after 11 past_by_a_commit) ≡ None
  pub undone : number_of 0x1003 (after 13 past_by_a_commit) ≡ Some 3
