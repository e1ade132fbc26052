-- What holds of each journal of a history.
use Rattle.std.specs.Prelude.{List, ◌∷◌}
use Rattle.iocm_model.specs.Operation.State.{State}
use Rattle.iocm_history.specs.Entry.{Entry, History}
use Rattle.iocm_history.specs.Legal.{IsRight}
use Rattle.iocm_activate.specs.declared.effect.Effect.{Effect}
use Rattle.iocm_journal.specs.Answering.{LeavesTheJournal}
use Rattle.iocm_journal.specs.Moving.{KeepsTheSame}
use Rattle.iocm_journal.specs.Now.{IsJournalOf}
use Rattle.iocm_journal.specs.Journaled.{Journaled}

-- an entry that is right, and tells that no change was accepted, undone or redone, leaves it as it
-- is: it is one of the history with that entry, too
abbrev pub OtherEntriesLeaveIt : Type 0
OtherEntriesLeaveIt = (opening : State) (h : History) (e : Entry) (j : Journaled) (fs : List Effect)
    → IsJournalOf opening h j fs → IsRight opening h e → LeavesTheJournal e.answer → IsJournalOf opening (e ∷ h) j fs

-- one that keeps the same is one of the same history
abbrev pub OneThatKeepsTheSameIsOne : Type 0
OneThatKeepsTheSameIsOne = (opening : State) (h : History) (i j : Journaled) (fs : List Effect)
    → KeepsTheSame i j → IsJournalOf opening h i fs → IsJournalOf opening h j fs
