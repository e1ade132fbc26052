-- The run without an undone change that was made in stages is a run.
use Rattle.std.proofs.Common.{◌≡◌, inl, inr, ℕ, ◌+◌, Bool, true, false, cond, ◌&&◌, not, List, [], ◌∷◌, ◌++◌, Option}
use Rattle.std.proofs.Common.{Some, None, refl, sym, ap, subst, ◌∙◌}
use Rattle.std.proofs.lemmas.Bool.{or_from}
use Rattle.std.specs.List.{list_any}
use Rattle.iocm_types.specs.declared.answer.Answer.{Answer}
use Rattle.iocm_types.specs.declared.answer.Answer.TheVariants.{Changed}
use Rattle.iocm_types.specs.declared.sub_id.SubId.{SubId}
use Rattle.iocm_model.specs.Operation.State.{State}
use Rattle.iocm_model.specs.Change.Tree.{ChangeTree}
use Rattle.iocm_model.specs.Operation.Step.{Step, order, device_begin, device_end, answer_in}
use Rattle.iocm_history.specs.Entry.{Call, at, activate, begin, advance, commit, abort, undo, redo, show, Entry}
use Rattle.iocm_history.specs.Entry.{History, plain_entry}
use Rattle.iocm_history.specs.Stage.{Stage, stage_after}
use Rattle.iocm_history.specs.Account.{account, state_at}
use Rattle.iocm_history.specs.Journal.{journal_of}
use Rattle.iocm_history.specs.Legal.{commit_entry, abort_answer, entry_of, IsRight, IsLegal}
use Rattle.iocm_history.specs.StageLaws.{begin_entry, abort_entry, ends_a_stage, is_done, steps_of, LeavesTheSteps}
use Rattle.iocm_history.proofs.EachCall.{other_calls_leave_the_state}
use Rattle.iocm_history.proofs.Redoing.{legal_before}
use Rattle.iocm_history.proofs.Stages.{abort_leaves_the_other_steps}
use Rattle.iocm_runs.specs.RunWithout.{is_at, altered_by, steps_off}
use Rattle.iocm_runs.specs.UndoneRun.{IsRunWithout}
use Rattle.iocm_runs.specs.StagedRun.{IsUndoneInStages, run_without_stages, IsRunWithoutStages, StagedRunsAreRuns}
use Rattle.iocm_runs.proofs.Coming.{Comes, idles, steps, changes, undoes, redoes, comes}
use Rattle.iocm_runs.proofs.UndoneRun.{undone_runs_are_runs}

-- ---- steps that are left

-- steps of steps are the same
steps_again : (xs : List SubId) (h g : History) → steps_of (steps_off xs h ++ g) ≡ steps_off xs h ++ steps_of g
steps_again xs [] g = refl
steps_again xs (e ∷ h) g = by (is_done e.call e.answer) refl (not (is_at xs e.call)) (steps_again xs h g)
  where
    by : (d : Bool) → is_done e.call e.answer ≡ d → (b : Bool)
        → steps_of (steps_off xs h ++ g) ≡ steps_off xs h ++ steps_of g
        → steps_of (cond (d && b) (e ∷ steps_off xs h) (steps_off xs h) ++ g)
        ≡ cond (d && b) (e ∷ steps_off xs h) (steps_off xs h) ++ steps_of g
    by true is true more =
        ap (λ d. cond d (e ∷ steps_of (steps_off xs h ++ g)) (steps_of (steps_off xs h ++ g))) is ∙ ap (λ l. e ∷ l) more
    by true is false more = more
    by false is b more = more

-- a step keeps what is staged
keeps_stage : (call : Call) (answer : Answer) (s : State) (g : Option Stage) → is_done call answer ≡ true
    → stage_after call answer s g ≡ g
keeps_stage (at x made) answer s g done = refl
keeps_stage (activate p) answer s g done = cc
keeps_stage (begin p) answer s g done = cc
keeps_stage advance answer s g done = cc
keeps_stage commit answer s g done = cc
keeps_stage abort answer s g done = cc
keeps_stage (undo n) answer s g done = cc
keeps_stage (redo n) answer s g done = cc
keeps_stage show answer s g done = cc

module _ (opening : State) (xs : List SubId) (g : History) where
  stage_left : (h : History) → (account opening (steps_off xs h ++ g)).stage ≡ (account opening g).stage
  unfolding account
  stage_left [] = refl
  stage_left (e ∷ h) = by (is_done e.call e.answer) refl (not (is_at xs e.call)) (stage_left h)
    where
      by : (d : Bool) → is_done e.call e.answer ≡ d → (b : Bool)
          → (account opening (steps_off xs h ++ g)).stage ≡ (account opening g).stage
          → (account opening (cond (d && b) (e ∷ steps_off xs h) (steps_off xs h) ++ g)).stage
          ≡ (account opening g).stage
      by true is true more = keeps_stage e.call e.answer (state_at opening (steps_off xs h ++ g))
          (account opening (steps_off xs h ++ g)).stage is ∙ more
      by true is false more = more
      by false is b more = more

  -- a step that was done doesn't end a stage
  goes_on : (h : History) (e : Entry) → IsRight opening h e → is_done e.call e.answer ≡ true
      → ends_a_stage e.answer ≡ false
  goes_on h e right done = by (comes opening h e right)
    where
      step_goes : (s : State) (x : SubId) (made : Step) → ends_a_stage (answer_in s x made) ≡ false
      step_goes s x (order o) = refl
      step_goes s x device_begin = refl
      step_goes s x device_end = refl

      by : Comes opening h e → ends_a_stage e.answer ≡ false
      by (idles idle) = let none = idle.undone in let no : true ≡ false = sym done ∙ none in cc
      by (steps x made is) = ap (λ (z : Entry). ends_a_stage z.answer) is ∙ step_goes (state_at opening h) x made
      by (changes k is none) = let no : true ≡ false = sym done ∙ none in cc
      by (undoes k is) = ap (λ (z : Entry). ends_a_stage z.answer) is
      by (redoes k is) = ap (λ (z : Entry). ends_a_stage z.answer) is

  -- so none of them does
  unended_left : (h between : History) → IsLegal opening (steps_off xs h ++ g)
      → list_any (λ (l : Entry). ends_a_stage l.answer) between ≡ false
      → list_any (λ (l : Entry). ends_a_stage l.answer) (steps_off xs h ++ between) ≡ false
  unended_left [] between legal none = none
  unended_left (e ∷ h) between legal none =
      by (is_done e.call e.answer) refl (not (is_at xs e.call)) legal (λ less. unended_left h between less none)
    where
      by : (d : Bool) → is_done e.call e.answer ≡ d → (b : Bool)
          → IsLegal opening (cond (d && b) (e ∷ steps_off xs h) (steps_off xs h) ++ g)
          → (IsLegal opening (steps_off xs h ++ g)
          → list_any (λ (l : Entry). ends_a_stage l.answer) (steps_off xs h ++ between) ≡ false)
          → list_any (λ (l : Entry). ends_a_stage l.answer)
          (cond (d && b) (e ∷ steps_off xs h) (steps_off xs h) ++ between) ≡ false
      by true is true legal more =
          or_from (ends_a_stage e.answer) _ (goes_on (steps_off xs h ++ g) e legal.0 is) (more legal.1)
      by true is false legal more = more legal
      by false is b legal more = more legal

joined : (a b c : History) → (a ++ b) ++ c ≡ a ++ (b ++ c)
joined [] b c = refl
joined (e ∷ a) b c = ap (λ l. e ∷ l) (joined a b c)

-- a Commit that was accepted had a stage
committed_by : (n k : ℕ) (g : Option Stage) → (commit_entry k g).answer ≡ Changed n → (s : Stage) × (g ≡ Some s)
committed_by n k (Some s) is = (s, refl)
committed_by n k None is = cc

was_staged : (opening : State) (h : History) (e : Entry) (n : ℕ) → IsRight opening h e → e.call ≡ commit
    → e.answer ≡ Changed n
    → (s : Stage) × ((account opening h).stage ≡ Some s)
was_staged opening h e n (inl same) call answer =
    committed_by n ((journal_of h).count + 1) (account opening h).stage
    (sym (ap (λ (z : Entry). z.answer) same ∙ ap (λ c. (entry_of opening h c).answer) call) ∙ answer)
was_staged opening h e n (inr lack) call answer = let other = ap (λ (z : Entry). z.answer) lack.1 in cc

module _ (opening : State) (h between since : History) (p : ChangeTree) (k n : ℕ) (e : Entry)
    (r : IsUndoneInStages opening h between since p k n e) where
  abbrev xs : List SubId
  xs = altered_by e

  abbrev begun : History
  begun = between ++ begin_entry p k ∷ h

  abbrev off : History
  off = steps_off xs since

  alone : IsRunWithout opening begun since e n
  alone = undone_runs_are_runs opening begun since e n
      (record { used = r.used; legal = r.legal; accepted = r.accepted; alone = r.alone })

  legal_e : IsLegal opening (e ∷ begun)
  legal_e = legal_before opening since (e ∷ begun) r.legal.1

  stage : (s : Stage) × ((account opening (off ++ begun)).stage ≡ Some s)
  stage = let staged = was_staged opening begun e n legal_e.0 r.committed r.accepted in
      (staged.0, stage_left opening xs begun since ∙ staged.1)

  -- after the steps that are left an Abort would be accepted
  legal_abort : IsLegal opening (abort_entry ∷ off ++ begun)
  legal_abort = (inl (ap (λ g. plain_entry abort (abort_answer g)) (sym stage.1)), alone.legal)

  left : LeavesTheSteps opening h (off ++ between) p k
  left = abort_leaves_the_other_steps opening h (off ++ between) p k (record {
    used = r.used;
    legal = subst (λ l. IsLegal opening (abort_entry ∷ l)) (sym (joined off between (begin_entry p k ∷ h))) legal_abort;
    unended = unended_left opening xs begun since between alone.legal r.unended;
  })

  same : steps_of (off ++ between) ++ h ≡ run_without_stages e since between h
  same = ap (λ l. l ++ h) (steps_again xs since between) ∙ joined off (steps_of between) h

  pub gone : IsRunWithoutStages opening h between since p k n e
  gone = record {
    legal = subst (IsLegal opening) same left.legal;
    state = alone.state ∙ sym (other_calls_leave_the_state opening (off ++ begun) abort_entry r.used legal_abort tt)
        ∙ ap (λ l. state_at opening (abort_entry ∷ l)) (sym (joined off between (begin_entry p k ∷ h))) ∙ left.state
        ∙ ap (state_at opening) same;
  }

pub staged_runs_are_runs : StagedRunsAreRuns
staged_runs_are_runs = gone
