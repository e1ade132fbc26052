-- Why an undo or a redo is refused, if it is.
use Rattle.std.specs.Prelude.{◌≡◌, ℕ, Option, None, Some}
use Rattle.iocm_types.specs.declared.answer.Answer.{Answer}
use Rattle.iocm_types.specs.declared.answer.Answer.TheVariants as answers
use Rattle.iocm_types.specs.declared.refused.At.TheVariants.{Subchannel}
use Rattle.iocm_types.specs.declared.refused.Refused.{Refused}
use Rattle.iocm_types.specs.declared.rule.Rule.TheVariants.{B1}
use Rattle.iocm_types.specs.declared.sub_id.SubId.{SubId}
use Rattle.iocm_model.specs.Change.Refusal.{refusal_at}
use Rattle.iocm_model.specs.Operation.State.{State}
use Rattle.iocm_history.specs.Entry.{History}
use Rattle.iocm_history.specs.Account.{account, marked_entries, state_at}
use Rattle.iocm_history.specs.StandsOn.{stands_on}
use Rattle.iocm_history.specs.Journal.{journal_of}
use Rattle.iocm_history.specs.Legal.{not_quiet_of, undo_answer, redo_answer}

-- this answer, unless it is refused
abbrev pub unless_refused : Answer → Option Refused → Answer
unless_refused answer None = answer
unless_refused answer (Some why) = answers.Refused why

-- B1, with a subchannel that isn't quiet
abbrev pub not_quiet : SubId → Refused
not_quiet x = refusal_at B1 (Subchannel x)

-- by a history, of the change of a number: the greatest that stands on it; the first subchannel that
-- it altered that isn't quiet; the answer to its undo; the answer to its redo
abbrev pub greatest_now : State → History → ℕ → Option ℕ
greatest_now opening h n = stands_on n (marked_entries opening h) (state_at opening h)

abbrev pub not_quiet_now : State → History → ℕ → Option SubId
not_quiet_now opening h n = not_quiet_of n (state_at opening h) (account opening h)

abbrev pub undo_now : State → History → ℕ → Answer
undo_now opening h n = undo_answer n (journal_of h).standing (greatest_now opening h n) (not_quiet_now opening h n)

abbrev pub redo_now : State → History → ℕ → Answer
redo_now opening h n = redo_answer n (journal_of h) (not_quiet_now opening h n)

-- an undo is refused for this, or for nothing
abbrev pub IsUndoDecided : State → History → ℕ → Option Refused → Type 0
IsUndoDecided opening h n why = unless_refused (answers.Undone n) why ≡ undo_now opening h n

-- a redo is refused for this, or for nothing
abbrev pub IsRedoDecided : State → History → ℕ → Option Refused → Type 0
IsRedoDecided opening h n why = unless_refused (answers.Redone n) why ≡ redo_now opening h n
