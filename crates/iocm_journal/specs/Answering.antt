-- The entry that an undo or a redo makes, and what it leaves.
use Rattle.std.specs.Prelude.{ℕ, List, ◌∷◌, Result, Ok, Err}
use Rattle.iocm_types.specs.declared.answer.Answer.{Answer}
use Rattle.iocm_types.specs.declared.answer.Answer.TheVariants as answers
use Rattle.iocm_types.specs.declared.refused.Refused.{Refused}
use Rattle.iocm_model.specs.Operation.State.{State}
use Rattle.iocm_history.specs.Entry.{Entry, History, plain_entry, undo, redo}
use Rattle.iocm_history.specs.Legal.{IsRight}
use Rattle.iocm_activate.specs.declared.effect.Effect.{Effect}
use Rattle.iocm_plant.specs.Operating.{Operating}
use Rattle.iocm_journal.specs.Now.{IsNow}
use Rattle.iocm_journal.specs.Journaled.{Journaled}

-- this answer, or the refusal
abbrev pub answer_or : Answer → Result (Unit {0}) Refused → Answer
answer_or answer (Ok done) = answer
answer_or answer (Err why) = answers.Refused why

-- the entry of an undo or a redo that came to this
abbrev pub undo_made : ℕ → Result (Unit {0}) Refused → Entry
undo_made n came = plain_entry (undo n) (answer_or (answers.Undone n) came)

abbrev pub redo_made : ℕ → Result (Unit {0}) Refused → Entry
redo_made n came = plain_entry (redo n) (answer_or (answers.Redone n) came)

-- an entry is right after a history, and journal and machine are then as it leaves them
pub record IsNext (opening : State) (h : History) (e : Entry) (j : Journaled) (fs : List Effect)
    (p : Operating) : Type 0 where
  pub right : IsRight opening h e
  pub now : IsNow opening (e ∷ h) j fs p

-- a journal and its machine go on by an entry. Whatever history they were of, with no change
-- staged, the entry is right after it. Then they are of the history with the entry
abbrev pub GoOnBy : Entry → List Effect → Journaled → Operating → Journaled → Operating → Type 0
GoOnBy e fs j p new after = (opening : State) (h : History) → IsNow opening h j fs p
    → IsNext opening h e new fs after

-- the answers that tell that no change was accepted, undone or redone
abbrev pub LeavesTheJournal : Answer → Type 0
LeavesTheJournal (answers.Changed n) = ⊥
LeavesTheJournal (answers.Undone n) = ⊥
LeavesTheJournal (answers.Redone n) = ⊥
LeavesTheJournal _ = Unit {0}
