-- What a redo is answered, in the order of the causes.
use Rattle.std.proofs.Common.{◌≡◌, ◌⊎◌, inl, inr, ℕ, Bool, true, false, cond, not, nat_le, ◌&&◌, eqb, List, [], ◌∷◌}
use Rattle.std.proofs.Common.{Option, Some, None, is_none, refl, sym, ap, ◌∙◌, arith}
use Rattle.std.proofs.lemmas.Bool.{eqb-true, eq-eqb, and_cases, and_parts, leb-true, leb-false, not-true, not-false}
use Rattle.iocm_types.specs.declared.answer.Answer.TheVariants.{Redone}
use Rattle.iocm_types.specs.declared.answer.Answer.TheVariants as answers
use Rattle.iocm_types.specs.declared.refused.At.TheVariants.{Nothing}
use Rattle.iocm_types.specs.declared.rule.Rule.TheVariants.{J1, J3}
use Rattle.iocm_types.specs.declared.sub_id.SubId.{SubId}
use Rattle.iocm_model.specs.Operation.State.{State}
use Rattle.iocm_model.specs.Change.Refusal.{refusal_at}
use Rattle.iocm_model.proofs.Change.RunsGoBack.{quiet_at}
use Rattle.iocm_history.specs.Entry.{redo, Entry, History, plain_entry}
use Rattle.iocm_history.specs.MarkedEntry.{altered_by_change}
use Rattle.iocm_history.specs.Stage.{Stage}
use Rattle.iocm_history.specs.Account.{Account, account, state_at}
use Rattle.iocm_history.specs.Journal.{Journal, is_in, is_past, journal_of}
use Rattle.iocm_history.specs.Legal.{unless_staged, unless_not_quiet, is_last_undone, not_quiet_of, entry_of}
use Rattle.iocm_history.specs.Legal.{may_lack_memory_after, IsRight}
use Rattle.iocm_history.proofs.Refusing.{none_is}
use Rattle.iocm_runs.proofs.Waiting.{waits_for}
use Rattle.iocm_runs.specs.RedoAnswers.{IsNotUndone, IsPast, RedoAnswered, staged, not_undone, past, not_last, waits}
use Rattle.iocm_runs.specs.RedoAnswers.{redone, lacks_memory, RedoIsAnsweredInOrder}

-- ---- what the tests of a journal say

last_is : (n : ℕ) (us : List ℕ) → is_last_undone n us ≡ true → (vs : List ℕ) × (us ≡ n ∷ vs)
last_is n [] last = cc
last_is n (u ∷ us) last = (us, ap (λ j. j ∷ us) (sym (eqb-true n u last)))

last_not : (n : ℕ) (us : List ℕ) → is_last_undone n us ≡ false → ((vs : List ℕ) × (us ≡ n ∷ vs)) → ⊥
last_not n us none found =
    let there : eqb n n ≡ false = ap (is_last_undone n) (sym found.1) ∙ none in
    let same : eqb n n ≡ true = eq-eqb n n refl in let no : true ≡ false = sym same ∙ there in cc

-- among those undone though not the last: so not none of them
past_is : (n : ℕ) (b : Journal) → is_past n b ≡ true → IsPast n b
past_is n b is =
    let all = and_parts (nat_le 1 n && nat_le n b.count && not (is_in n b.standing)) (not (is_in n b.undone)) is in
    let three = and_parts (nat_le 1 n && nat_le n b.count) (not (is_in n b.standing)) all.0 in
    let two = and_parts (nat_le 1 n) (nat_le n b.count) three.0 in record {
      given = leb-true 1 n two.0;
      counted = leb-true n b.count two.1;
      not_standing = not-true (is_in n b.standing) three.1;
      not_undone = not-true (is_in n b.undone) all.1;
    }

-- neither undone nor past: never there, or standing
not_undone_is : (n : ℕ) (b : Journal) → is_in n b.undone ≡ false → is_past n b ≡ false → IsNotUndone n b
not_undone_is n b none is =
    first (and_cases (nat_le 1 n && nat_le n b.count && not (is_in n b.standing)) (not (is_in n b.undone)) is)
  where
    third : (nat_le 1 n ≡ false) ⊎ (nat_le n b.count ≡ false) → IsNotUndone n b
    third (inl low) = let less = leb-false 1 n low in inl (omega arith)
    third (inr high) = inr (inl (leb-false n b.count high))

    second : ((nat_le 1 n && nat_le n b.count) ≡ false) ⊎ (not (is_in n b.standing) ≡ false) → IsNotUndone n b
    second (inl outside) = third (and_cases (nat_le 1 n) (nat_le n b.count) outside)
    second (inr there) = inr (inr (not-false (is_in n b.standing) there))

    first : ((nat_le 1 n && nat_le n b.count && not (is_in n b.standing)) ≡ false) ⊎ (not (is_in n b.undone) ≡ false)
        → IsNotUndone n b
    first (inl other) = second (and_cases (nat_le 1 n && nat_le n b.count) (not (is_in n b.standing)) other)
    first (inr there) = let among = not-false (is_in n b.undone) there in let no : true ≡ false = sym among ∙ none in cc

-- ---- a redo

module _ (opening : State) (h : History) (n : ℕ) (e : Entry) where
  abbrev a : Account
  a = account opening h

  abbrev s : State
  s = state_at opening h

  abbrev b : Journal
  b = journal_of h

  abbrev Verdict : Type 0
  Verdict = RedoAnswered opening h n e

  verdict : (g : Option Stage) (last here before : Bool) (quiet : Option SubId) → a.stage ≡ g
      → is_last_undone n b.undone ≡ last → is_in n b.undone ≡ here
      → is_past n b ≡ before → not_quiet_of n s a ≡ quiet
      → e.answer ≡ (unless_staged g (redo n) (plain_entry (redo n) (cond last (unless_not_quiet quiet (Redone n))
      (cond here (answers.Refused (refusal_at J3 Nothing))
      (cond before (answers.Refused (refusal_at J3 Nothing)) (answers.Refused (refusal_at J1 Nothing))))))).answer
      → Verdict
  verdict (Some g) last here before quiet stage l i p q answer =
      staged (λ none. let no : Some g ≡ None = sym stage ∙ none in cc) answer
  verdict None true here before (Some x) stage l i p q answer =
      waits stage (last_is n b.undone l) x (waits_for opening h n x q) answer
  verdict None true here before None stage l i p q answer =
      redone stage (last_is n b.undone l) (quiet_at s.lives (altered_by_change n a.entries) q) answer
  verdict None false true before quiet stage l i p q answer = not_last stage i (last_not n b.undone l) answer
  verdict None false false true quiet stage l i p q answer = past stage (past_is n b p) answer
  verdict None false false false quiet stage l i p q answer = not_undone stage (not_undone_is n b i p) answer

  judged : IsRight opening h e → e.call ≡ redo n → Verdict
  judged (inl same) call =
      verdict a.stage (is_last_undone n b.undone) (is_in n b.undone) (is_past n b) (not_quiet_of n s a) refl refl refl
      refl refl
      (ap (λ (z : Entry). z.answer) same ∙ ap (λ c. (entry_of opening h c).answer) call)
  judged (inr lack) call =
      let may = and_parts (is_none a.stage) (is_last_undone n b.undone && is_none (not_quiet_of n s a))
      (sym (ap (may_lack_memory_after opening h) call) ∙ lack.0) in
      let done = and_parts (is_last_undone n b.undone) (is_none (not_quiet_of n s a)) may.1 in
      lacks_memory (none_is a.stage may.0) (last_is n b.undone done.0)
      (quiet_at s.lives (altered_by_change n a.entries) (none_is (not_quiet_of n s a) done.1))
      (ap (λ (z : Entry). z.answer) lack.1)

pub redo_is_answered_in_order : RedoIsAnsweredInOrder
redo_is_answered_in_order opening h n e used legal call = judged opening h n e legal.0 call
