-- Entries that are right, by what is staged.
use Rattle.std.proofs.Common.{◌≡◌, inl, inr, ℕ, ◌+◌, nat_lt, Bool, true, false, cond, not, ◌&&◌, is_none, Some, None}
use Rattle.std.proofs.Common.{refl, sym, ap, ◌∙◌}
use Rattle.std.proofs.lemmas.Bool.{and_from}
use Rattle.iocm_types.specs.declared.answer.Answer.{Answer}
use Rattle.iocm_types.specs.declared.answer.Answer.TheVariants as answers
use Rattle.iocm_types.specs.declared.refused.At.TheVariants.{Nothing}
use Rattle.iocm_types.specs.declared.rule.Rule.{Rule}
use Rattle.iocm_types.specs.declared.rule.Rule.TheVariants.{O1, O2, C1, C2, M1}
use Rattle.iocm_types.specs.declared.sub_id.SubId.{SubId}
use Rattle.iocm_model.specs.Operation.State.{State}
use Rattle.iocm_model.specs.Operation.Step.{Step, answer_in}
use Rattle.iocm_model.specs.Change.Refusal.{refusal_at}
use Rattle.iocm_model.specs.Change.Tree.{ChangeTree, depth_of, leaves_of, most_depth, most_leaves}
use Rattle.iocm_model.specs.Change.Meaning.{meaning}
use Rattle.iocm_tree.specs.Limits.{limit_refusal}
use Rattle.iocm_history.specs.Change.{effect_of_change}
use Rattle.iocm_history.specs.Entry.{Call, at, activate, begin, advance, commit, abort, undo, redo, show, Entry}
use Rattle.iocm_history.specs.Entry.{History, plain_entry}
use Rattle.iocm_history.specs.Account.{state_at, stage_of}
use Rattle.iocm_history.specs.Journal.{journal_of}
use Rattle.iocm_history.specs.Stage.{Stage, once_more, is_held, left_of}
use Rattle.iocm_history.specs.Legal.{unless_held, unless_staged, activated, begun, advance_answer, commit_entry}
use Rattle.iocm_history.specs.Legal.{abort_answer, show_answer, entry_of}
use Rattle.iocm_history.specs.Legal.{is_within_limits, IsRight}
use Rattle.iocm_journal.specs.Deciding.{undo_now, redo_now}

-- the entry of a call that is refused by a rule, and names nothing else
abbrev pub refused : Call → Rule → Entry
refused call rule = plain_entry call (answers.Refused (refusal_at rule Nothing))

-- the entry of an activation, as its tree means it
abbrev pub activated_now : State → History → ChangeTree → Entry
activated_now opening h p = activated p ((journal_of h).count + 1) (state_at opening h) (meaning p (state_at opening h))

-- ---- steps

pub held_right : (opening : State) (h : History) (x : SubId) (made : Step) → is_held x (stage_of opening h) ≡ true
    → IsRight opening h (plain_entry (at x made) answers.Held)
held_right opening h x made held =
    inl (ap (λ b. plain_entry (at x made) (unless_held b (answer_in (state_at opening h) x made))) (sym held))

pub step_right : (opening : State) (h : History) (x : SubId) (made : Step) → is_held x (stage_of opening h) ≡ false
    → IsRight opening h (plain_entry (at x made) (answer_in (state_at opening h) x made))
step_right opening h x made off =
    inl (ap (λ b. plain_entry (at x made) (unless_held b (answer_in (state_at opening h) x made))) (sym off))

-- ---- O1: a change is staged

pub activate_o1 : (opening : State) (h : History) (t : Stage) (p : ChangeTree) → stage_of opening h ≡ Some t
    → IsRight opening h (refused (activate p) O1)
activate_o1 opening h t p is = inl (sym (ap (λ g. unless_staged g (activate p) (activated_now opening h p)) is))

pub begin_o1 : (opening : State) (h : History) (t : Stage) (p : ChangeTree) → stage_of opening h ≡ Some t
    → IsRight opening h (refused (begin p) O1)
begin_o1 opening h t p is =
    inl (sym (ap (λ g. unless_staged g (begin p) (begun p (meaning p (state_at opening h)))) is))

pub undo_o1 : (opening : State) (h : History) (t : Stage) (n : ℕ) → stage_of opening h ≡ Some t
    → IsRight opening h (refused (undo n) O1)
undo_o1 opening h t n is =
    inl (sym (ap (λ g. unless_staged g (undo n) (plain_entry (undo n) (undo_now opening h n))) is))

pub redo_o1 : (opening : State) (h : History) (t : Stage) (n : ℕ) → stage_of opening h ≡ Some t
    → IsRight opening h (refused (redo n) O1)
redo_o1 opening h t n is =
    inl (sym (ap (λ g. unless_staged g (redo n) (plain_entry (redo n) (redo_now opening h n))) is))

pub show_o1 : (opening : State) (h : History) (t : Stage) → stage_of opening h ≡ Some t
    → IsRight opening h (refused show O1)
show_o1 opening h t is =
    inl (sym (ap (λ g. unless_staged g show (plain_entry show (show_answer (state_at opening h) (journal_of h)))) is))

-- ---- O2: nothing is staged

pub advance_o2 : (opening : State) (h : History) → stage_of opening h ≡ None → IsRight opening h (refused advance O2)
advance_o2 opening h is = inl (ap (plain_entry advance) (sym (ap advance_answer is)))

pub commit_o2 : (opening : State) (h : History) → stage_of opening h ≡ None → IsRight opening h (refused commit O2)
commit_o2 opening h is = inl (sym (ap (commit_entry ((journal_of h).count + 1)) is))

pub abort_o2 : (opening : State) (h : History) → stage_of opening h ≡ None → IsRight opening h (refused abort O2)
abort_o2 opening h is = inl (ap (plain_entry abort) (sym (ap abort_answer is)))

-- ---- changes at once and in stages

pub activated_right : (opening : State) (h : History) (p : ChangeTree) (e : Entry) → stage_of opening h ≡ None
    → e ≡ activated_now opening h p → e.call ≡ activate p → IsRight opening h e
activated_right opening h p e idle is call = inl (is
    ∙ sym (ap (λ g. unless_staged g (activate p) (activated_now opening h p)) idle)
    ∙ sym (ap (entry_of opening h) call))

pub begun_right : (opening : State) (h : History) (p : ChangeTree) (e : Entry) → stage_of opening h ≡ None
    → e ≡ begun p (meaning p (state_at opening h)) → e.call ≡ begin p
    → IsRight opening h e
begun_right opening h p e idle is call = inl (is
    ∙ sym (ap (λ g. unless_staged g (begin p) (begun p (meaning p (state_at opening h)))) idle)
    ∙ sym (ap (entry_of opening h) call))

-- lack of memory, of a tree that no limit refuses
within_limits : (t : ChangeTree) → limit_refusal t ≡ None → is_within_limits t ≡ true
within_limits t none = by (nat_lt most_depth (depth_of t)) (nat_lt most_leaves (leaves_of t)) none
  where
    by : (deep wide : Bool) → cond deep (Some (refusal_at C1 Nothing)) (cond wide (Some (refusal_at C2 Nothing)) None)
        ≡ None
        → (not deep && not wide) ≡ true
    by true wide none = cc
    by false true none = cc
    by false false none = refl

pub activate_lacks : (opening : State) (h : History) (t : ChangeTree) → stage_of opening h ≡ None
    → limit_refusal t ≡ None
    → IsRight opening h (refused (activate t) M1)
activate_lacks opening h t idle none = inr (and_from _ _ (ap is_none idle) (within_limits t none), refl)

pub begin_lacks : (opening : State) (h : History) (t : ChangeTree) → stage_of opening h ≡ None → limit_refusal t ≡ None
    → IsRight opening h (refused (begin t) M1)
begin_lacks opening h t idle none = inr (and_from _ _ (ap is_none idle) (within_limits t none), refl)

pub advance_right : (opening : State) (h : History) (t : Stage) → stage_of opening h ≡ Some t
    → IsRight opening h (plain_entry advance (answers.Left (left_of (once_more t))))
advance_right opening h t is = inl (ap (plain_entry advance) (sym (ap advance_answer is)))

pub commit_right : (opening : State) (h : History) (t : Stage) (e : Entry) → stage_of opening h ≡ Some t
    → e ≡ record {
      call = commit;
      answer = answers.Changed ((journal_of h).count + 1);
      effect = effect_of_change t.change;
    } → IsRight opening h e
commit_right opening h t e is same =
    inl (same ∙ sym (ap (commit_entry ((journal_of h).count + 1)) is)
    ∙ sym (ap (λ z. entry_of opening h (Entry.call z)) same))

pub abort_right : (opening : State) (h : History) (t : Stage) → stage_of opening h ≡ Some t
    → IsRight opening h (plain_entry abort answers.Aborted)
abort_right opening h t is = inl (ap (plain_entry abort) (sym (ap abort_answer is)))

pub show_right : (opening : State) (h : History) (answer : Answer) → stage_of opening h ≡ None
    → answer ≡ show_answer (state_at opening h) (journal_of h)
    → IsRight opening h (plain_entry show answer)
show_right opening h answer idle is =
    inl (ap (plain_entry show) is
    ∙ sym (ap (λ g. unless_staged g show (plain_entry show (show_answer (state_at opening h) (journal_of h)))) idle))
