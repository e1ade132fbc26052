-- Worked runs that meet the premises of the laws of `iocm_runs`, and what the laws say of them.
use Rattle.std.specs.Prelude.{ℕ, take, true, false, [], ◌∷◌}
use Rattle.iocm_model.specs.Change.Tree.{leaf}
use Rattle.iocm_types.specs.declared.order.Order.TheVariants.{Start, Store}
use Rattle.iocm_types.specs.declared.answer.Answer.TheVariants.{Held, Changed, Staged, Aborted, Undone}
use Rattle.iocm_history.specs.Entry.{Call, begin, commit, abort, undo, Entry, History}
use Rattle.iocm_history.specs.Legal.{entry_of, IsLegal}
use Rattle.iocm_history.specs.RedoLaws.{IsRedone}
use Rattle.iocm_history.specs.StageLaws.{abort_entry, IsStagedUntil, LeavesTheSteps}
use Rattle.iocm_examples.specs.BaseDeck.{device_key, subchannel}
use Rattle.iocm_examples.specs.Edits.{base_opened, deleted, add_0fff}
use Rattle.iocm_examples.specs.Histories.{Script, GivesItsAnswers, history_of, change_by, orders, enables, code}
use Rattle.iocm_examples.specs.Histories.{stored, steps_elsewhere, a_path_undone, undone_in_turn}
use Rattle.iocm_examples.specs.SelectiveUndo.{cells_apart}
use Rattle.iocm_runs.specs.UndoneRun.{IsUndoneAlone, IsRunWithout}
use Rattle.iocm_runs.specs.RedoneRun.{IsRedoneAlone, IsRunWithoutBoth}
use Rattle.iocm_runs.specs.RedoneAmong.{IsRunThatCounts}
use Rattle.iocm_runs.specs.StagedRun.{IsUndoneInStages, IsRunWithoutStages}
use Rattle.iocm_runs.specs.LaterChanges.{IsUndoneLater, run_with_the_later}

-- the history of the first calls of a script, and of these the latest
abbrev pub first : ℕ → Script → History
first n script = history_of (take n script)

abbrev pub latest_of_first : ℕ → ℕ → Script → History
latest_of_first k n script = take k (first n script)

-- the entry of a call after the first calls of a script
abbrev pub entry_after : ℕ → Script → Call → Entry
entry_after n script call = entry_of base_opened (first n script) call

-- a device is deleted and comes back, and LPA uses another one meanwhile
abbrev pub deletion : Entry
deletion = entry_after 2 steps_elsewhere (change_by (deleted (device_key 0x1003)))

pub record ADeletionUndone : Type 0 where
  pub met : IsUndoneAlone base_opened (first 2 steps_elsewhere) (latest_of_first 2 5 steps_elsewhere) deletion 1
  pub run : IsRunWithout base_opened (first 2 steps_elsewhere) (latest_of_first 2 5 steps_elsewhere) deletion 1

-- a path goes offline and comes online again, and LPB looks at a subchannel meanwhile
pub record APathRedone : Type 0 where
  pub met : IsRedoneAlone base_opened (first 3 a_path_undone) (latest_of_first 1 5 a_path_undone) 1
  pub run : IsRunWithoutBoth base_opened (first 3 a_path_undone) (latest_of_first 1 5 a_path_undone) 1

-- the deletion of a device is undone and redone, and between them so is the change by which it came
pub record ADeletionRedone : Type 0 where
  pub met : IsRedone base_opened (first 4 undone_in_turn) (latest_of_first 4 9 undone_in_turn) 2
  pub run : IsRunThatCounts base_opened (first 4 undone_in_turn) (latest_of_first 4 9 undone_in_turn) 2

-- a device is deleted in stages, which holds its subchannels; LPA uses another device before the
-- Commit, and looks at both after it
abbrev pub a_deletion_in_stages : Script
a_deletion_in_stages =
    (begin (leaf (deleted (device_key 0x1003))), Staged 1)
    ∷ (orders (subchannel 1 3) Start, Held)
    ∷ (enables (subchannel 1 2) 0x80 7, code 0)
    ∷ (commit, Changed 1)
    ∷ (orders (subchannel 1 2) Store, stored 0x1002 0xC0 0x80 true 7)
    ∷ (orders (subchannel 1 3) Store, code 3)
    ∷ (undo 1, Undone 1)
    ∷ (orders (subchannel 1 2) Store, stored 0x1002 0xC0 0x80 true 7)
    ∷ (orders (subchannel 1 3) Store, stored 0x1003 0xC0 0xC0 false 0)
    ∷ []

pub record ADeletionInStages : Type 0 where
  pub answers : GivesItsAnswers a_deletion_in_stages
  pub met : IsUndoneInStages base_opened (first 0 a_deletion_in_stages)
      (latest_of_first 2 3 a_deletion_in_stages) (latest_of_first 2 6 a_deletion_in_stages)
      (leaf (deleted (device_key 0x1003))) 1 1 (entry_after 3 a_deletion_in_stages commit)
  pub run : IsRunWithoutStages base_opened (first 0 a_deletion_in_stages)
      (latest_of_first 2 3 a_deletion_in_stages) (latest_of_first 2 6 a_deletion_in_stages)
      (leaf (deleted (device_key 0x1003))) 1 1 (entry_after 3 a_deletion_in_stages commit)

-- the same deletion is given up by an Abort
abbrev pub a_deletion_given_up : Script
a_deletion_given_up =
    (begin (leaf (deleted (device_key 0x1003))), Staged 1)
    ∷ (orders (subchannel 1 3) Start, Held)
    ∷ (enables (subchannel 1 2) 0x80 7, code 0)
    ∷ (abort, Aborted)
    ∷ (orders (subchannel 1 3) Store, stored 0x1003 0xC0 0xC0 false 0)
    ∷ []

pub record ADeletionGivenUp : Type 0 where
  pub answers : GivesItsAnswers a_deletion_given_up
  pub met : IsStagedUntil base_opened [] (leaf (deleted (device_key 0x1003))) 1
      (latest_of_first 2 3 a_deletion_given_up) abort_entry
  pub run : LeavesTheSteps base_opened [] (latest_of_first 2 3 a_deletion_given_up)
      (leaf (deleted (device_key 0x1003))) 1

-- the first of two devices is undone under the second
abbrev pub UnderALaterChange : Type 0
UnderALaterChange =
    IsUndoneLater base_opened (first 0 cells_apart) (latest_of_first 1 2 cells_apart)
    (entry_after 0 cells_apart (change_by add_0fff)) 1

-- what is left of that without the first is no legal history: the second has a number that it would
-- not get
abbrev pub NoRunWithoutTheFirst : Type 0
NoRunWithoutTheFirst =
    IsLegal base_opened (run_with_the_later (entry_after 0 cells_apart (change_by add_0fff))
    (latest_of_first 1 2 cells_apart) (first 0 cells_apart))
    → ⊥
