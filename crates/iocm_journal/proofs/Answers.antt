-- Answers that leave a journal as it is, and refusals as answers.
use Rattle.std.proofs.Common.{◌≡◌, ℕ, false, Option, Some, None, option_map, refl}
use Rattle.iocm_types.specs.declared.answer.Answer.{Answer}
use Rattle.iocm_types.specs.declared.answer.Answer.TheVariants as answers
use Rattle.iocm_types.specs.declared.sub_id.SubId.{SubId}
use Rattle.iocm_history.specs.Journal.{Journal, journal_after}
use Rattle.iocm_history.specs.Legal.{unless_not_quiet}
use Rattle.iocm_history.specs.RedoLaws.{undoes_or_redoes}
use Rattle.iocm_history.specs.Reckoning.{undone_then}
use Rattle.iocm_journal.specs.Answering.{LeavesTheJournal}
use Rattle.iocm_journal.specs.Deciding.{not_quiet, unless_refused}

-- a refusal with B1, as an answer
pub unless_busy : (answer : Answer) (quiet : Option SubId)
    → unless_refused answer (option_map not_quiet quiet) ≡ unless_not_quiet quiet answer
unless_busy answer (Some x) = refl
unless_busy answer None = refl

pub same_journal : (a : Answer) (b : Journal) → LeavesTheJournal a → journal_after a b ≡ b
same_journal (answers.Io io) b stays = refl
same_journal (answers.Begun was) b stays = refl
same_journal (answers.Ended was) b stays = refl
same_journal answers.Held b stays = refl
same_journal (answers.Changed n) b stays = absurd stays
same_journal (answers.Staged k) b stays = refl
same_journal (answers.Left k) b stays = refl
same_journal answers.Aborted b stays = refl
same_journal (answers.Undone n) b stays = absurd stays
same_journal (answers.Redone n) b stays = absurd stays
same_journal (answers.Shown counts) b stays = refl
same_journal (answers.Refused why) b stays = refl

pub same_undone : (n : ℕ) (a : Answer) (count before : ℕ) → LeavesTheJournal a → undone_then n a count before ≡ before
same_undone n (answers.Io io) count before stays = refl
same_undone n (answers.Begun was) count before stays = refl
same_undone n (answers.Ended was) count before stays = refl
same_undone n answers.Held count before stays = refl
same_undone n (answers.Changed m) count before stays = absurd stays
same_undone n (answers.Staged k) count before stays = refl
same_undone n (answers.Left k) count before stays = refl
same_undone n answers.Aborted count before stays = refl
same_undone n (answers.Undone m) count before stays = absurd stays
same_undone n (answers.Redone m) count before stays = absurd stays
same_undone n (answers.Shown counts) count before stays = refl
same_undone n (answers.Refused why) count before stays = refl

pub no_undo : (n : ℕ) (a : Answer) → LeavesTheJournal a → undoes_or_redoes n a ≡ false
no_undo n (answers.Io io) stays = refl
no_undo n (answers.Begun was) stays = refl
no_undo n (answers.Ended was) stays = refl
no_undo n answers.Held stays = refl
no_undo n (answers.Changed m) stays = absurd stays
no_undo n (answers.Staged k) stays = refl
no_undo n (answers.Left k) stays = refl
no_undo n answers.Aborted stays = refl
no_undo n (answers.Undone m) stays = absurd stays
no_undo n (answers.Redone m) stays = absurd stays
no_undo n (answers.Shown counts) stays = refl
no_undo n (answers.Refused why) stays = refl
