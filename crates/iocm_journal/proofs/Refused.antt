-- Undos and redos that are refused, and entries that are right.
use Rattle.std.proofs.Common.{◌≡◌, inl, inr, ℕ, true, is_none, None, List, ◌∷◌, length, map, refl, sym, ap, subst, ◌∙◌}
use Rattle.std.proofs.lemmas.Bool.{and_from}
use Rattle.iocm_types.specs.declared.answer.Answer.{Answer}
use Rattle.iocm_types.specs.declared.answer.Answer.TheVariants as answers
use Rattle.iocm_types.specs.declared.refused.Refused.{Refused}
use Rattle.iocm_types.specs.declared.refused.At.TheVariants.{Nothing}
use Rattle.iocm_types.specs.declared.rule.Rule.TheVariants.{M1}
use Rattle.iocm_model.specs.Operation.State.{State}
use Rattle.iocm_model.specs.Change.Refusal.{refusal_at}
use Rattle.iocm_history.specs.Entry.{Call, undo, redo, History, plain_entry}
use Rattle.iocm_history.specs.Account.{account, stage_of}
use Rattle.iocm_history.specs.Journal.{is_in, journal_of}
use Rattle.iocm_history.specs.Legal.{unless_staged, is_last_undone, IsRight}
use Rattle.iocm_history.proofs.EachCall.{other_calls_leave_the_state}
use Rattle.iocm_activate.specs.declared.effect.Effect.{Effect}
use Rattle.iocm_plant.specs.Operating.{Operating}
use Rattle.iocm_journal.specs.Answering.{IsNext}
use Rattle.iocm_journal.specs.Now.{IsJournalOf, IsNow}
use Rattle.iocm_journal.specs.Journaled.{Journaled}
use Rattle.iocm_journal.specs.Moving.{KeepsTheSame}
use Rattle.std.specs.List.{slice_get, AllByRecursion}
use Rattle.iocm_journal.specs.Kept.{IsRedoable}
use Rattle.iocm_journal.specs.declared.kept.Undone.{Undone}
use Rattle.iocm_journal.proofs.GoingOn.{goes_on}
use Rattle.iocm_journal.specs.Deciding.{not_quiet_now, undo_now, redo_now}

-- an undo is right where it is answered as the definition says
pub right_undo : (opening : State) (h : History) (n : ℕ) (answer : Answer) → stage_of opening h ≡ None
    → answer ≡ undo_now opening h n → IsRight opening h (plain_entry (undo n) answer)
right_undo opening h n answer idle is = inl (ap (plain_entry (undo n)) is
    ∙ sym (ap (λ g. unless_staged g (undo n) (plain_entry (undo n) (undo_now opening h n))) idle))

pub right_redo : (opening : State) (h : History) (n : ℕ) (answer : Answer) → stage_of opening h ≡ None
    → answer ≡ redo_now opening h n → IsRight opening h (plain_entry (redo n) answer)
right_redo opening h n answer idle is = inl (ap (plain_entry (redo n)) is
    ∙ sym (ap (λ g. unless_staged g (redo n) (plain_entry (redo n) (redo_now opening h n))) idle))

-- for lack of memory too, where the change stands, or would be redone
pub lacking_undo : (opening : State) (h : History) (n : ℕ) → stage_of opening h ≡ None
    → is_in n (journal_of h).standing ≡ true
    → IsRight opening h (plain_entry (undo n) (answers.Refused (refusal_at M1 Nothing)))
lacking_undo opening h n idle here = inr (and_from _ _ (ap is_none idle) here, refl)

pub lacking_redo : (opening : State) (h : History) (n : ℕ) → stage_of opening h ≡ None
    → is_last_undone n (journal_of h).undone ≡ true
    → not_quiet_now opening h n ≡ None
    → IsRight opening h (plain_entry (redo n) (answers.Refused (refusal_at M1 Nothing)))
lacking_redo opening h n idle last quiet =
    inr (and_from _ _ (ap is_none idle) (and_from _ _ last (ap is_none quiet)), refl)

-- nothing is staged after a refusal where nothing was
still_idle_undo : (opening : State) (h : History) (n : ℕ) (why : Refused) → stage_of opening h ≡ None
    → stage_of opening (plain_entry (undo n) (answers.Refused why) ∷ h) ≡ None
unfolding account
still_idle_undo opening h n why idle = idle

still_idle_redo : (opening : State) (h : History) (n : ℕ) (why : Refused) → stage_of opening h ≡ None
    → stage_of opening (plain_entry (redo n) (answers.Refused why) ∷ h) ≡ None
unfolding account
still_idle_redo opening h n why idle = idle

-- a journal that keeps the same is one of the same history
pub kept_the_same : (opening : State) (h : History) (i j : Journaled) (fs : List Effect) → KeepsTheSame i j
    → IsJournalOf opening h i fs → IsJournalOf opening h j fs
kept_the_same opening h i j fs same it = record {
  used = it.used;
  legal = it.legal;
  count = it.count ∙ sym (ap length same.changes);
  effects = it.effects ∙ sym (ap length same.changes);
  kept = λ n k f at_k at_f. it.kept n k f (sym (ap (λ xs. slice_get xs n) same.changes) ∙ at_k) at_f;
  standing = same.standing ∙ it.standing;
  undone = ap (map (λ (u : Undone). u.number)) same.undone ∙ it.undone;
  redoable = subst (AllByRecursion (IsRedoable opening h)) (sym same.undone) it.redoable;
}

-- a refusal leaves journal and machine
module _ {opening : State} {h : History} {i : Journaled} {fs : List Effect} {p : Operating}
    (now : IsNow opening h i fs p) (j : Journaled) (q : Operating)
    (same : KeepsTheSame i j) (stays : q.state ≡ p.state) where
  refused_now : (call : Call) (why : Refused) → IsRight opening h (plain_entry call (answers.Refused why))
      → stage_of opening (plain_entry call (answers.Refused why) ∷ h) ≡ None
      → IsNext opening h (plain_entry call (answers.Refused why)) j fs q
  refused_now call why right idle = record {
    right = right;
    now = record {
      journal = kept_the_same opening (plain_entry call (answers.Refused why) ∷ h) i j fs same
          (goes_on opening h (plain_entry call (answers.Refused why)) i fs now.journal right tt);
      idle = idle;
      state = stays ∙ now.state
          ∙ sym (other_calls_leave_the_state opening h (plain_entry call (answers.Refused why)) now.journal.used
          (right, now.journal.legal) tt);
    };
  }

  pub undo_refused : (n : ℕ) (why : Refused) → IsRight opening h (plain_entry (undo n) (answers.Refused why))
      → IsNext opening h (plain_entry (undo n) (answers.Refused why)) j fs q
  undo_refused n why right = refused_now (undo n) why right (still_idle_undo opening h n why now.idle)

  pub redo_refused : (n : ℕ) (why : Refused) → IsRight opening h (plain_entry (redo n) (answers.Refused why))
      → IsNext opening h (plain_entry (redo n) (answers.Refused why)) j fs q
  redo_refused n why right = refused_now (redo n) why right (still_idle_redo opening h n why now.idle)
