-- What an undo is answered, in the order of the causes.
use Rattle.std.proofs.Common.{◌≡◌, inl, inr, ℕ, Bool, true, false, cond, Option, Some, None, is_none, refl, sym, ap}
use Rattle.std.proofs.Common.{◌∙◌}
use Rattle.std.proofs.lemmas.Bool.{and_parts}
use Rattle.iocm_types.specs.declared.answer.Answer.TheVariants.{Undone}
use Rattle.iocm_types.specs.declared.answer.Answer.TheVariants as answers
use Rattle.iocm_types.specs.declared.refused.At.TheVariants.{Nothing}
use Rattle.iocm_types.specs.declared.rule.Rule.TheVariants.{J1}
use Rattle.iocm_types.specs.declared.sub_id.SubId.{SubId}
use Rattle.iocm_model.specs.Operation.State.{State}
use Rattle.iocm_model.specs.Change.Refusal.{refusal_at}
use Rattle.iocm_model.proofs.Change.RunsGoBack.{quiet_at}
use Rattle.iocm_history.specs.Entry.{undo, Entry, History, plain_entry}
use Rattle.iocm_history.specs.Change.{Change}
use Rattle.iocm_history.specs.Fits.{fits}
use Rattle.iocm_history.specs.MarkedEntry.{change_at, altered_by_change}
use Rattle.iocm_history.specs.Stage.{Stage}
use Rattle.iocm_history.specs.Account.{Account, account, state_at}
use Rattle.iocm_history.specs.StandsOn.{standing_on, greatest_on, stands_on}
use Rattle.iocm_history.specs.Journal.{is_in, journal_of}
use Rattle.iocm_history.specs.Legal.{unless_staged, unless_not_quiet, unless_stood_on, not_quiet_of, entry_of}
use Rattle.iocm_history.specs.Legal.{may_lack_memory_after, IsRight}
use Rattle.iocm_history.proofs.Refusing.{none_is}
use Rattle.iocm_runs.proofs.Waiting.{greatest_is, waits_for}
use Rattle.iocm_runs.specs.UndoAnswers.{MayStart, UndoAnswered, staged, not_standing, stood_on, waits, undone}
use Rattle.iocm_runs.specs.UndoAnswers.{lacks_memory, UndoIsAnsweredInOrder}

module _ (opening : State) (h : History) (n : ℕ) (e : Entry) where
  abbrev a : Account
  a = account opening h

  abbrev s : State
  s = state_at opening h

  abbrev Verdict : Type 0
  Verdict = UndoAnswered opening h n e

  by_stand : MayStart opening h n → (o : Option Change) (k : ℕ) → change_at n a.entries ≡ o
      → greatest_on n o a.entries s ≡ Some k
      → e.answer ≡ unless_stood_on (Some k) (Undone n) → Verdict
  by_stand may None k at is answer = cc
  by_stand may (Some c) k at is answer =
      stood_on may k c at (greatest_is (standing_on n c a.entries (fits c s)) k is) answer

  verdict : (g : Option Stage) (here : Bool) (on : Option ℕ) (quiet : Option SubId) → a.stage ≡ g
      → is_in n (journal_of h).standing ≡ here
      → stands_on n a.entries s ≡ on → not_quiet_of n s a ≡ quiet
      → e.answer ≡ (unless_staged g (undo n)
      (plain_entry (undo n) (cond here (unless_stood_on on (unless_not_quiet quiet (Undone n)))
      (answers.Refused (refusal_at J1 Nothing))))).answer → Verdict
  verdict (Some g) here on quiet stage there stands wait answer =
      staged (λ none. let no : Some g ≡ None = sym stage ∙ none in cc) answer
  verdict None false on quiet stage there stands wait answer = not_standing stage there answer
  verdict None true (Some k) quiet stage there stands wait answer =
      by_stand (record { idle = stage; standing = there }) (change_at n a.entries) k refl stands answer
  verdict None true None (Some x) stage there stands wait answer =
      waits (record { start = record { idle = stage; standing = there }; none = stands }) x
      (waits_for opening h n x wait) answer
  verdict None true None None stage there stands wait answer =
      undone (record { start = record { idle = stage; standing = there }; none = stands })
      (quiet_at s.lives (altered_by_change n a.entries) wait) answer

  judged : IsRight opening h e → e.call ≡ undo n → Verdict
  judged (inl same) call =
      verdict a.stage (is_in n (journal_of h).standing) (stands_on n a.entries s) (not_quiet_of n s a) refl refl refl
      refl
      (ap (λ (z : Entry). z.answer) same ∙ ap (λ c. (entry_of opening h c).answer) call)
  judged (inr lack) call =
      let may = and_parts (is_none a.stage) (is_in n (journal_of h).standing)
      (sym (ap (may_lack_memory_after opening h) call) ∙ lack.0) in
      lacks_memory (record { idle = none_is a.stage may.0; standing = may.1 }) (ap (λ (z : Entry). z.answer) lack.1)

pub undo_is_answered_in_order : UndoIsAnsweredInOrder
undo_is_answered_in_order opening h n e used legal call = judged opening h n e legal.0 call
