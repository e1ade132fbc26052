-- What comes between the Begin of a change and its end, beside the run that makes the steps alone.
use Rattle.std.proofs.Common.{◌≡◌, inl, inr, ℕ, ◌+◌, Bool, true, false, cond, [], ◌∷◌, ◌++◌, Option, Some, None, Ok}
use Rattle.std.proofs.Common.{refl, sym, ap, subst, ◌∙◌}
use Rattle.std.proofs.lemmas.Bool.{or_parts}
use Rattle.std.specs.List.{list_any}
use Rattle.std.specs.FinMap.{get}
use Rattle.iocm_types.specs.declared.answer.Answer.TheVariants.{Held, Staged}
use Rattle.iocm_types.specs.declared.answer.Answer.TheVariants as answers
use Rattle.iocm_types.specs.declared.refused.At.TheVariants.{Nothing}
use Rattle.iocm_types.specs.declared.refused.Refused.{Refused}
use Rattle.iocm_types.specs.declared.rule.Rule.TheVariants.{M1, O1}
use Rattle.iocm_types.specs.declared.sub_id.SubId.{SubId}
use Rattle.iocm_model.specs.Operation.State.{State}
use Rattle.iocm_model.specs.Operation.Step.{Step, order, device_begin, device_end, after_step, answer_in}
use Rattle.iocm_model.specs.Change.Refusal.{refusal_at}
use Rattle.iocm_model.specs.Change.Runs.{state_after_all}
use Rattle.iocm_model.specs.Change.Tree.{ChangeTree}
use Rattle.iocm_model.specs.Change.Meaning.{Performed, Outcome, meaning}
use Rattle.iocm_history.specs.Entry.{Call, at, activate, begin, advance, commit, abort, undo, redo, show, Entry}
use Rattle.iocm_history.specs.Entry.{History, plain_entry}
use Rattle.iocm_history.specs.Store.{store_of, state_of, store_with}
use Rattle.iocm_history.specs.Change.{change_of, effect_of_change}
use Rattle.iocm_history.specs.MarkedEntry.{step, nothing, kept, effect_of_act}
use Rattle.iocm_history.specs.Stage.{Stage, once_more, advanced, is_held}
use Rattle.iocm_history.specs.Account.{replay, committed, Account, account, marked_entries, state_at}
use Rattle.iocm_history.specs.StandsOn.{stands_on}
use Rattle.iocm_history.specs.Journal.{Journal, journal_of}
use Rattle.iocm_history.specs.Legal.{unless_held, unless_staged, begun, activated, advance_answer, commit_entry}
use Rattle.iocm_history.specs.Legal.{abort_answer, undo_answer, redo_answer, show_answer, not_quiet_of, entry_of}
use Rattle.iocm_history.specs.Legal.{may_lack_memory, IsRight, IsLegal}
use Rattle.iocm_history.specs.InUse.{IsInUse}
use Rattle.iocm_history.specs.StageLaws.{begin_entry, ends_a_stage, is_done, steps_of, IsStagedUntil}
use Rattle.iocm_history.specs.StageLaws.{AbortLeavesTheOtherSteps, commit_of, DoesTheEdits, CommitDoesTheEdits}
use Rattle.iocm_history.proofs.OneCell.{state_of_store}
use Rattle.iocm_history.proofs.Striking.{made, entry}
use Rattle.iocm_history.proofs.Level.{IsReady, state_changed, changed_store, state_changed_in_use}
use Rattle.iocm_history.proofs.Undone.{inert_replay}
use Rattle.iocm_history.proofs.Settled.{IsStaged, IsSettled, settled_in_use, nothing_inert}
use Rattle.iocm_history.proofs.Along.{settled}
use Rattle.iocm_history.proofs.Redoing.{store_now}
use Rattle.iocm_history.proofs.EditsLike.{edits_do}

-- ---- what may come while a change is staged

-- an entry that does nothing, or a step that isn't held
pub data WhileStaged (opening : State) (h : History) (g : Stage) (e : Entry) : Type 0 where
  waits : (f : Stage) → f.change ≡ g.change
      → account opening (e ∷ h) ≡ record { entries = entry nothing kept ∷ marked_entries opening h; stage = Some f }
      → is_done e.call e.answer ≡ false → WhileStaged opening h g e
  steps : (x : SubId) (done : Step) → e ≡ plain_entry (at x done) (answer_in (state_at opening h) x done)
      → WhileStaged opening h g e

-- calls that wait for the end of a stage
abbrev may_wait : Call → Bool
may_wait (activate p) = true
may_wait (begin p) = true
may_wait (undo n) = true
may_wait (redo n) = true
may_wait show = true
may_wait _ = false

waits_too : (s : State) (b : Journal) (a : Account) (c : Call) → may_lack_memory s b a c ≡ true → may_wait c ≡ true
waits_too s b a (at x done) may = may
waits_too s b a (activate p) may = refl
waits_too s b a (begin p) may = refl
waits_too s b a advance may = may
waits_too s b a commit may = may
waits_too s b a abort may = may
waits_too s b a (undo n) may = refl
waits_too s b a (redo n) may = refl
waits_too s b a show may = refl

module _ (opening : State) (h : History) (g : Stage) where
  abbrev a : Account
  a = account opening h

  abbrev s : State
  s = state_at opening h

  -- an entry that does nothing keeps what is staged
  keeps : (e : Entry) → account opening (e ∷ h) ≡ record { entries = entry nothing kept ∷ a.entries; stage = a.stage }
      → a.stage ≡ Some g
      → is_done e.call e.answer ≡ false → WhileStaged opening h g e
  keeps e account_is is none =
      waits g refl (account_is ∙ (λ i. record { entries = entry nothing kept ∷ a.entries; stage = is i })) none

  while_refused : (c : Call) (why : Refused) → may_wait c ≡ true → a.stage ≡ Some g
      → WhileStaged opening h g (plain_entry c (answers.Refused why))
  unfolding account
  while_refused (at x done) why may is = cc
  while_refused (activate p) why may is = keeps (plain_entry (activate p) (answers.Refused why)) refl is refl
  while_refused (begin p) why may is = keeps (plain_entry (begin p) (answers.Refused why)) refl is refl
  while_refused advance why may is = cc
  while_refused commit why may is = cc
  while_refused abort why may is = cc
  while_refused (undo n) why may is = keeps (plain_entry (undo n) (answers.Refused why)) refl is refl
  while_refused (redo n) why may is = keeps (plain_entry (redo n) (answers.Refused why)) refl is refl
  while_refused show why may is = keeps (plain_entry show (answers.Refused why)) refl is refl

  while_held : (x : SubId) (done : Step) (held : Bool) → a.stage ≡ Some g
      → WhileStaged opening h g (plain_entry (at x done) (unless_held held (answer_in s x done)))
  unfolding account
  while_held x done true is = keeps (plain_entry (at x done) Held) refl is refl
  while_held x done false is = steps x done refl

  while_advanced : a.stage ≡ Some g → WhileStaged opening h g (plain_entry advance (advance_answer (Some g)))
  unfolding account
  while_advanced is = waits (once_more g) refl
      (λ i. record { entries = entry nothing kept ∷ a.entries; stage = advanced (is i) }) refl

  while_waiting : (c : Call) (e : Entry) (o : Option Stage) → o ≡ Some g → may_wait c ≡ true → a.stage ≡ Some g
      → WhileStaged opening h g (unless_staged o c e)
  while_waiting c e (Some f) here may is = while_refused c (refusal_at O1 Nothing) may is
  while_waiting c e None here may is = cc

  no_commit : (n : ℕ) (o : Option Stage) → o ≡ Some g → ends_a_stage (commit_entry n o).answer ≡ false → ⊥
  no_commit n (Some f) here none = cc
  no_commit n None here none = cc

  no_abort : (o : Option Stage) → o ≡ Some g → ends_a_stage (abort_answer o) ≡ false → ⊥
  no_abort (Some f) here none = cc
  no_abort None here none = cc

  while_advance : (o : Option Stage) → o ≡ Some g → a.stage ≡ Some g
      → WhileStaged opening h g (plain_entry advance (advance_answer o))
  while_advance o here is =
      subst (λ z. WhileStaged opening h g (plain_entry advance (advance_answer z))) (sym here) (while_advanced is)

  -- the entry that a call makes while a change is staged
  while_called : (c : Call) → a.stage ≡ Some g → ends_a_stage (entry_of opening h c).answer ≡ false
      → WhileStaged opening h g (entry_of opening h c)
  while_called (at x done) is none = while_held x done (is_held x a.stage) is
  while_called (activate p) is none =
      while_waiting (activate p) (activated p ((journal_of h).count + 1) s (meaning p s)) a.stage is refl is
  while_called (begin p) is none = while_waiting (begin p) (begun p (meaning p s)) a.stage is refl is
  while_called advance is none = while_advance a.stage is is
  while_called commit is none = absurd (no_commit ((journal_of h).count + 1) a.stage is none)
  while_called abort is none = absurd (no_abort a.stage is none)
  while_called (undo n) is none =
      while_waiting (undo n) (plain_entry (undo n)
      (undo_answer n (journal_of h).standing (stands_on n a.entries s) (not_quiet_of n s a))) a.stage is refl is
  while_called (redo n) is none =
      while_waiting (redo n) (plain_entry (redo n) (redo_answer n (journal_of h) (not_quiet_of n s a))) a.stage is refl
      is
  while_called show is none = while_waiting show (plain_entry show (show_answer s (journal_of h))) a.stage is refl is

  while_right : (e : Entry) → a.stage ≡ Some g → ends_a_stage e.answer ≡ false → IsRight opening h e
      → WhileStaged opening h g e
  while_right e is none (inl same) =
      subst (WhileStaged opening h g) (sym same)
      (while_called e.call is (sym (ap (λ (z : Entry). ends_a_stage z.answer) same) ∙ none))
  while_right e is none (inr lack) =
      subst (WhileStaged opening h g) (sym lack.1)
      (while_refused e.call (refusal_at M1 Nothing)
      (waits_too (state_at opening h) (journal_of h) (account opening h) e.call lack.0) is)

-- ---- beside the run of the steps alone

-- what was begun is staged, the steps alone are a legal history with nothing staged, and both come
-- to the same cells
record IsBeside (opening : State) (h between : History) (p : ChangeTree) (k : ℕ) : Type 0 where
  stage : Stage
  staged : (account opening (between ++ begin_entry p k ∷ h)).stage ≡ Some stage
  begun_as : stage.change ≡ change_of (meaning p (state_at opening h)) (state_at opening h)
  legal : IsLegal opening (steps_of between ++ h)
  idle : (account opening (steps_of between ++ h)).stage ≡ None
  same : replay (store_of opening) (marked_entries opening (between ++ begin_entry p k ∷ h))
      ≡ replay (store_of opening) (marked_entries opening (steps_of between ++ h))

module _ (opening : State) (h : History) (p : ChangeTree) (k : ℕ) where
  abbrev with_begin : History → History
  with_begin between = between ++ begin_entry p k ∷ h

  abbrev without_begin : History → History
  without_begin between = steps_of between ++ h

  -- at the Begin
  begun_by : (g : Option Stage) (o : Outcome) → Staged k ≡ (unless_staged g (begin p) (begun p o)).answer → g ≡ None
  begun_by (Some g) o is = cc
  begun_by None o is = refl

  was_idle : IsRight opening h (begin_entry p k) → (account opening h).stage ≡ None
  was_idle (inl same) = begun_by (account opening h).stage (meaning p (state_at opening h))
      (ap (λ (e : Entry). e.answer) same)
  was_idle (inr lack) = let other = ap (λ (e : Entry). e.answer) lack.1 in cc

  beside_begin : IsLegal opening (with_begin []) → IsBeside opening h [] p k
  unfolding account
  beside_begin legal = record {
    stage = record { change = change_of (meaning p (state_at opening h)) (state_at opening h); advances = 0 };
    staged = refl;
    begun_as = refl;
    legal = legal.1;
    idle = was_idle legal.0;
    same = inert_replay (store_of opening) (entry nothing kept) (marked_entries opening h) nothing_inert;
  }

  -- an entry that does nothing
  module _ (e : Entry) (between : History) (b : IsBeside opening h between p k) where
    steps_without : is_done e.call e.answer ≡ false → without_begin (e ∷ between) ≡ without_begin between
    steps_without none = ap (λ c. cond c (e ∷ steps_of between) (steps_of between) ++ h) none

    beside_waiting : (f : Stage) → f.change ≡ b.stage.change
        → account opening (with_begin (e ∷ between))
        ≡ record { entries = entry nothing kept ∷ marked_entries opening (with_begin between); stage = Some f }
        → is_done e.call e.answer ≡ false → IsBeside opening h (e ∷ between) p k
    beside_waiting f same account_is none = record {
      stage = f;
      staged = ap (λ (c : Account). c.stage) account_is;
      begun_as = same ∙ b.begun_as;
      legal = subst (IsLegal opening) (sym (steps_without none)) b.legal;
      idle = ap (λ l. (account opening l).stage) (steps_without none) ∙ b.idle;
      same = ap (λ (c : Account). replay (store_of opening) c.entries) account_is
          ∙ inert_replay (store_of opening) (entry nothing kept) (marked_entries opening (with_begin between))
          nothing_inert
          ∙ b.same ∙ ap (λ l. replay (store_of opening) (marked_entries opening l)) (sym (steps_without none));
    }

  -- a step
  module _ (x : SubId) (between : History) (b : IsBeside opening h between p k) where
    state_is : state_at opening (with_begin between) ≡ state_at opening (without_begin between)
    state_is = ap state_of b.same

    -- it is right in the other run
    right_there : (done : Step)
        → IsRight opening (without_begin between)
        (plain_entry (at x done) (answer_in (state_at opening (with_begin between)) x done))
    right_there done = inl (ap (λ z. plain_entry (at x done) (answer_in z x done)) state_is
        ∙ ap (λ g. plain_entry (at x done)
        (unless_held (is_held x g) (answer_in (state_at opening (without_begin between)) x done))) (sym b.idle))

    step_here : Step → Entry
    step_here done = plain_entry (at x done) (answer_in (state_at opening (with_begin between)) x done)

    beside_step : (done : Step) → is_done (at x done) (answer_in (state_at opening (with_begin between)) x done) ≡ true
        → ((l : History) → account opening (step_here done ∷ l) ≡ record {
          entries = entry (step x done (get (after_step x done (state_at opening l)).lives x)) kept
              ∷ marked_entries opening l;
          stage = (account opening l).stage;
        }) → IsBeside opening h (step_here done ∷ between) p k
    unfolding step_here
    beside_step done here account_is = record {
      stage = b.stage;
      staged = ap (λ (c : Account). c.stage) (account_is (with_begin between)) ∙ b.staged;
      begun_as = b.begun_as;
      legal = subst (IsLegal opening) (sym kept_too) (right_there done, b.legal);
      idle = ap (λ l. (account opening l).stage) kept_too
          ∙ ap (λ (c : Account). c.stage) (account_is (without_begin between)) ∙ b.idle;
      same = ap (λ (c : Account). replay (store_of opening) c.entries) (account_is (with_begin between))
          ∙ (λ i. store_with (effect_of_act (step x done (get (after_step x done (state_is i)).lives x))) (b.same i))
          ∙ ap (λ (c : Account). replay (store_of opening) c.entries) (sym (account_is (without_begin between)))
          ∙ ap (λ l. replay (store_of opening) (marked_entries opening l)) (sym kept_too);
    }
      where
        kept_too : without_begin (step_here done ∷ between) ≡ step_here done ∷ without_begin between
        kept_too = ap (λ c. cond c (step_here done ∷ steps_of between) (steps_of between) ++ h) here

    beside_any_step : (done : Step) → IsBeside opening h (step_here done ∷ between) p k
    unfolding account step_here
    beside_any_step (order o) = beside_step (order o) refl (λ l. refl)
    beside_any_step device_begin = beside_step device_begin refl (λ l. refl)
    beside_any_step device_end = beside_step device_end refl (λ l. refl)

    step_beside : (done : Step) (e : Entry)
        → e ≡ plain_entry (at x done) (answer_in (state_at opening (with_begin between)) x done)
        → IsBeside opening h (e ∷ between) p k
    unfolding step_here
    step_beside done e is = subst (λ z. IsBeside opening h (z ∷ between) p k) (sym is) (beside_any_step done)

  -- along what comes after the Begin
  beside : (between : History) → IsLegal opening (with_begin between)
      → list_any (λ (e : Entry). ends_a_stage e.answer) between ≡ false → IsBeside opening h between p k
  beside [] legal none = beside_begin legal
  beside (e ∷ between) legal none =
      let both = or_parts (ends_a_stage e.answer) _ none in
      let b = beside between legal.1 both.1 in
      by b (while_right opening (with_begin between) b.stage e b.staged both.0 legal.0)
    where
      by : (b : IsBeside opening h between p k) → WhileStaged opening (with_begin between) b.stage e
          → IsBeside opening h (e ∷ between) p k
      by b (waits f same account_is none) = beside_waiting e between b f same account_is none
      by b (steps x done is) = step_beside x between b done e is

-- ---- the laws

pub abort_leaves_the_other_steps : AbortLeavesTheOtherSteps
unfolding account
abort_leaves_the_other_steps opening h between p k u =
    let b = beside opening h p k between u.legal.1 u.unended in record {
      legal = b.legal;
      state = ap state_of (inert_replay (store_of opening) (entry nothing kept)
          (marked_entries opening (between ++ begin_entry p k ∷ h)) nothing_inert ∙ b.same);
    }

module _ (opening : State) (h between : History) (p : ChangeTree) (k n : ℕ) (done : Performed)
    (means : meaning p (state_at opening h) ≡ Ok done)
    (u : IsStagedUntil opening h p k between (commit_of n done (state_at opening h))) where
  abbrev before : History
  before = between ++ begin_entry p k ∷ h

  b : IsBeside opening h between p k
  b = beside opening h p k between u.legal.1 u.unended

  i : IsSettled (store_of opening) (journal_of before) (account opening before)
  i = settled opening before u.used u.legal.1

  -- the change is the one that the tree meant at the Begin
  change_is : b.stage.change ≡ record { edits = done.edits; from = state_at opening h }
  change_is = b.begun_as ∙ ap (λ o. change_of o (state_at opening h)) means

  ready : IsReady b.stage.change (state_at opening before)
  ready = subst (λ g. IsStaged g (state_at opening before)) b.staged i.stage

  used : IsInUse (state_at opening before)
  used = settled_in_use (store_of opening) (journal_of before) (account opening before) i

  committed_entries : marked_entries opening (commit_of n done (state_at opening h) ∷ before)
      ≡ made n b.stage.change ∷ marked_entries opening before
  unfolding account
  committed_entries = ap (λ g. entry (committed n g) kept ∷ marked_entries opening before) b.staged

  pub does : DoesTheEdits opening h between p k n done
  does = record {
    legal = b.legal;
    state = ap (λ ls. state_of (replay (store_of opening) ls)) committed_entries
        ∙ ap (λ m. state_of (store_with (effect_of_change b.stage.change) m))
        (store_now (store_of opening) (journal_of before) (account opening before) i)
        ∙ ap state_of (changed_store b.stage.change (state_at opening before) ready used)
        ∙ state_of_store (state_changed b.stage.change (state_at opening before))
        (state_changed_in_use b.stage.change (state_at opening before) ready used).sound
        ∙ edits_do b.stage.change (state_at opening before) ready used
        ∙ (λ j. state_after_all (change_is j).edits (state_of (b.same j)));
  }

pub commit_does_the_edits : CommitDoesTheEdits
commit_does_the_edits opening h between p k n done means u = does opening h between p k n done means u
