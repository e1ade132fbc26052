-- Entries that leave an installation as it is.
use Rattle.std.proofs.Common.{◌≡◌, ◌∷◌, refl, sym, subst}
use Rattle.iocm_types.specs.declared.answer.Answer.TheVariants as answers
use Rattle.iocm_types.specs.declared.answer.Counts.{Counts}
use Rattle.iocm_types.specs.declared.refused.Refused.{Refused}
use Rattle.iocm_model.specs.Operation.State.{State}
use Rattle.iocm_history.specs.Entry.{Call, at, activate, begin, advance, commit, abort, undo, redo, show, Entry}
use Rattle.iocm_history.specs.Entry.{History, plain_entry}
use Rattle.iocm_history.specs.Account.{account, state_at, stage_of}
use Rattle.iocm_history.specs.HistoryLaws.{LeavesTheState}
use Rattle.iocm_history.specs.Legal.{IsRight}
use Rattle.iocm_history.proofs.EachCall.{other_calls_leave_the_state}
use Rattle.iocm_journal.specs.Answering.{LeavesTheJournal}
use Rattle.iocm_journal.specs.JournalLaws.{OtherEntriesLeaveIt}
use Rattle.iocm_core.specs.Running.{IsStagedAs, IsInstallationOf}
use Rattle.iocm_core.specs.declared.installation.Installation.{Installation}

-- with an entry that changes nothing, an installation is that of the history with it
pub idle_now : OtherEntriesLeaveIt → (opening : State) (h : History) (m : Installation) (e : Entry)
    → IsInstallationOf opening h m → IsRight opening h e → LeavesTheJournal e.answer → LeavesTheState e.answer
    → stage_of opening (e ∷ h) ≡ stage_of opening h → IsInstallationOf opening (e ∷ h) m
idle_now others opening h m e it right same_journal same_state stage = record {
  journal = others opening h e m.journal m.changes.items it.journal right same_journal;
  stage = transport_staged;
  room = it.room;
}
  where
    state : state_at opening (e ∷ h) ≡ state_at opening h
    state = other_calls_leave_the_state opening h e it.journal.used (right, it.journal.legal) same_state

    transport_staged : IsStagedAs (stage_of opening (e ∷ h)) m.stage (state_at opening (e ∷ h)) m.plant
    transport_staged = subst (λ g. IsStagedAs g m.stage (state_at opening (e ∷ h)) m.plant) (sym stage)
        (subst (λ s. IsStagedAs (stage_of opening h) m.stage s m.plant) (sym state) it.stage)

-- a refused call leaves what is staged
pub refused_stage : (opening : State) (h : History) (call : Call) (why : Refused)
    → stage_of opening (plain_entry call (answers.Refused why) ∷ h) ≡ stage_of opening h
unfolding account
refused_stage opening h (at x made) why = refl
refused_stage opening h (activate p) why = refl
refused_stage opening h (begin p) why = refl
refused_stage opening h advance why = refl
refused_stage opening h commit why = refl
refused_stage opening h abort why = refl
refused_stage opening h (undo n) why = refl
refused_stage opening h (redo n) why = refl
refused_stage opening h show why = refl

-- a refused call leaves the installation
pub refused_now : OtherEntriesLeaveIt
    → (opening : State) (h : History) (m : Installation) (call : Call) (why : Refused) → IsInstallationOf opening h m
    → IsRight opening h (plain_entry call (answers.Refused why))
    → IsInstallationOf opening (plain_entry call (answers.Refused why) ∷ h) m
refused_now others opening h m call why it right =
    idle_now others opening h m (plain_entry call (answers.Refused why)) it right tt tt
    (refused_stage opening h call why)

-- nor does one that shows
pub shown_stage : (opening : State) (h : History) (counts : Counts)
    → stage_of opening (plain_entry show (answers.Shown counts) ∷ h) ≡ stage_of opening h
unfolding account
shown_stage opening h counts = refl
