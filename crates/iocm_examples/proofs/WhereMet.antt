-- The premises of the laws are met by worked runs.
use Rattle.std.proofs.Common.{◌≡◌, ℕ, zero, suc, false, ◌||◌, not, List, [], ◌∷◌, ◌++◌, map, reverse, take, Option}
use Rattle.std.proofs.Common.{Some, None, Ok, Err, refl, sym, ap, subst, ◌∙◌, cond, ◌&&◌}
use Rattle.iocm_examples.proofs.ComputedRuns.{numbers_anew_is}
use Rattle.iocm_examples.specs.WithoutAChange.{without_the_first}
use Rattle.iocm_runs.proofs.Later.{legal_runs_without_lead_there}
use Rattle.iocm_history.specs.Account.{account_after, account, state_in, state_at}
use Rattle.iocm_model.specs.Operation.State.{State}
use Rattle.std.proofs.lemmas.Bool.{or_right}
use Rattle.iocm_model.specs.Change.Tree.{ChangeTree, leaf}
use Rattle.iocm_model.specs.Change.Meaning.{Outcome}
use Rattle.iocm_types.specs.declared.order.Order.TheVariants.{Start, Store}
use Rattle.std.specs.FinMap.{entries}
use Rattle.iocm_types.specs.declared.answer.Answer.{Answer}
use Rattle.iocm_types.specs.declared.answer.Answer.TheVariants.{Held, Undone, Redone, Staged}
use Rattle.iocm_model.specs.Machine.Configuration.{IsKeyed, with_keys, configuration_of}
use Rattle.iocm_model.proofs.Change.Steps.{opening_is_sound}
use Rattle.iocm_history.specs.Entry.{Call, begin, commit, abort, undo, redo, History, plain_entry, Entry, activate}
use Rattle.iocm_history.specs.InUse.{IsInUse}
use Rattle.iocm_history.specs.Legal.{unless_staged, IsLegal, begun, commit_entry, activated}
use Rattle.iocm_history.specs.RedoLaws.{redo_entry, undoes_or_redoes, IsRedone}
use Rattle.iocm_history.specs.Run.{answers_of}
use Rattle.iocm_history.specs.Stage.{Stage}
use Rattle.iocm_history.specs.StageLaws.{begin_entry, abort_entry, ends_a_stage, is_done, IsStagedUntil}
use Rattle.iocm_history.specs.UndoLaws.{undo_entry}
use Rattle.iocm_history.proofs.LegalRuns.{runs_are_legal}
use Rattle.iocm_history.proofs.Stages.{abort_leaves_the_other_steps}
use Rattle.iocm_examples.specs.BaseDeck.{base, device_key, subchannel}
use Rattle.iocm_examples.specs.Edits.{base_opened, deleted, add_0fff}
use Rattle.iocm_examples.specs.Histories.{GivesItsAnswers, calls_of, history_of, steps_elsewhere, a_path_undone}
use Rattle.iocm_examples.specs.Histories.{undone_in_turn, change_by, number_of}
use Rattle.iocm_examples.specs.SelectiveUndo.{cells_apart, add_1004}
use Rattle.iocm_examples.proofs.OnLists.{states_on_lists}
use Rattle.iocm_examples.proofs.Listed.Views.{entries-configuration_of}
use Rattle.iocm_examples.proofs.Computed.Rules.{base_keeps_the_rules}
use Rattle.iocm_examples.proofs.Computed.Histories.{steps_elsewhere_is, a_path_undone_is, undone_in_turn_is}
use Rattle.iocm_examples.proofs.Computed.SelectiveUndo.{cells_apart_is}
use Rattle.iocm_examples.proofs.Listed.Trees.{one}
use Rattle.iocm_examples.proofs.Listed.Histories.{ListedCall, beginning, committing, aborting, undoes}
use Rattle.iocm_examples.proofs.Computed.Edits.{plain_delete}
use Rattle.iocm_examples.proofs.Computed.Runs.{ordered, enabled, made_by, answers_are}
use Rattle.iocm_runs.proofs.StagedRun.{staged_runs_are_runs}
use Rattle.iocm_runs.proofs.UndoneRun.{undone_runs_are_runs}
use Rattle.iocm_runs.proofs.RedoneRun.{redone_runs_are_runs}
use Rattle.iocm_runs.proofs.RedoneAmong.{runs_that_count_are_runs}
use Rattle.iocm_runs.specs.RunWithout.{alters_changes, is_at, altered_by}
use Rattle.iocm_runs.specs.UndoneRun.{IsUndoneAlone}
use Rattle.iocm_runs.specs.StagedRun.{IsUndoneInStages}
use Rattle.iocm_runs.specs.RedoneRun.{IsRedoneAlone}
use Rattle.iocm_runs.specs.LaterChanges.{goes_back_or_forth, is_for_a_change, one_less, with_one_less}
use Rattle.iocm_runs.specs.LaterChanges.{run_with_the_later}
use Rattle.iocm_examples.specs.Premises.{first, latest_of_first, entry_after, deletion, a_deletion_in_stages}
use Rattle.iocm_examples.specs.Premises.{a_deletion_given_up, ADeletionUndone, APathRedone, ADeletionRedone}
use Rattle.iocm_examples.specs.Premises.{ADeletionInStages, ADeletionGivenUp, UnderALaterChange, NoRunWithoutTheFirst}

-- ---- the example deck is in use

base_records : entries (configuration_of base) ≡ with_keys base
unfolding states_on_lists
base_records = entries-configuration_of base ∙ refl

base_keyed : IsKeyed (configuration_of base)
base_keyed = base_records ∙ ap (λ es. with_keys (map (λ e. e.1) es)) (sym base_records)

base_in_use : IsInUse base_opened
unfolding base_opened
base_in_use = record { sound = opening_is_sound (configuration_of base) base_keyed; rules = base_keeps_the_rules }

-- ---- answers by their place

abbrev answer_at : ℕ → List Answer → Answer
answer_at n [] = Held
answer_at zero (a ∷ rest) = a
answer_at (suc n) (a ∷ rest) = answer_at n rest

-- an entry of an undo or a redo that was accepted
undo_by : (n : ℕ) (g : Option Stage) (answer : Answer)
    → (unless_staged g (undo n) (plain_entry (undo n) answer)).answer ≡ Undone n
    → unless_staged g (undo n) (plain_entry (undo n) answer) ≡ undo_entry n
undo_by n (Some g) answer is = cc
undo_by n None answer is = ap (plain_entry (undo n)) is

redo_by : (n : ℕ) (g : Option Stage) (answer : Answer)
    → (unless_staged g (redo n) (plain_entry (redo n) answer)).answer ≡ Redone n
    → unless_staged g (redo n) (plain_entry (redo n) answer) ≡ redo_entry n
redo_by n (Some g) answer is = cc
redo_by n None answer is = ap (plain_entry (redo n)) is

begin_by : (p : ChangeTree) (k : ℕ) (g : Option Stage) (o : Outcome)
    → (unless_staged g (begin p) (begun p o)).answer ≡ Staged k
    → unless_staged g (begin p) (begun p o) ≡ begin_entry p k
begin_by p k (Some g) o is = cc
begin_by p k None (Ok r) is = ap (plain_entry (begin p)) is
begin_by p k None (Err why) is = cc

commit_call : (n : ℕ) (g : Option Stage) → (commit_entry n g).call ≡ commit
commit_call n (Some g) = refl
commit_call n None = refl

-- ---- the runs

deletion_undone : entry_after 5 steps_elsewhere (undo 1) ≡ undo_entry 1
deletion_undone = undo_by 1 _ _ (ap (answer_at 5) steps_elsewhere_is.answers)

pub a_deletion_undone : ADeletionUndone
a_deletion_undone =
    let met : IsUndoneAlone base_opened (first 2 steps_elsewhere) (latest_of_first 2 5 steps_elsewhere) deletion 1 =
    record {
      used = base_in_use;
      legal = subst (λ e. IsLegal base_opened (e ∷ first 5 steps_elsewhere)) deletion_undone
          (runs_are_legal base_opened (calls_of (take 6 steps_elsewhere)));
      accepted = ap (answer_at 2) steps_elsewhere_is.answers;
      alone = λ i. not (alters_changes (ap (answer_at 4) steps_elsewhere_is.answers i)
          || (alters_changes (ap (answer_at 3) steps_elsewhere_is.answers i) || false));
    } in record {
      met = met;
      run =
          undone_runs_are_runs base_opened (first 2 steps_elsewhere) (latest_of_first 2 5 steps_elsewhere) deletion 1 met;
    }

path_undone : entry_after 3 a_path_undone (undo 1) ≡ undo_entry 1
path_undone = undo_by 1 _ _ (ap (answer_at 3) a_path_undone_is.answers)

path_redone : entry_after 5 a_path_undone (redo 1) ≡ redo_entry 1
path_redone = redo_by 1 _ _ (ap (answer_at 5) a_path_undone_is.answers)

pub a_path_redone : APathRedone
a_path_redone =
    let between : History = latest_of_first 1 5 a_path_undone in
    let met : IsRedoneAlone base_opened (first 3 a_path_undone) (latest_of_first 1 5 a_path_undone) 1 = record {
      used = base_in_use;
      legal = subst (λ e. IsLegal base_opened (redo_entry 1 ∷ between ++ e ∷ first 3 a_path_undone)) path_undone
          (subst (λ e. IsLegal base_opened (e ∷ first 5 a_path_undone)) path_redone
          (runs_are_legal base_opened (calls_of (take 6 a_path_undone))));
      alone = λ i. not (alters_changes (ap (answer_at 4) a_path_undone_is.answers i) || false);
    } in record {
      met = met;
      run =
          redone_runs_are_runs base_opened (first 3 a_path_undone) (latest_of_first 1 5 a_path_undone) 1 met;
    }

turn_undone : entry_after 4 undone_in_turn (undo 2) ≡ undo_entry 2
turn_undone = undo_by 2 _ _ (ap (answer_at 4) undone_in_turn_is.answers)

turn_redone : entry_after 9 undone_in_turn (redo 2) ≡ redo_entry 2
turn_redone = redo_by 2 _ _ (ap (answer_at 9) undone_in_turn_is.answers)

pub a_deletion_redone : ADeletionRedone
a_deletion_redone =
    let between : History = latest_of_first 4 9 undone_in_turn in
    let at : (n : ℕ) → answer_at n (reverse (answers_of (history_of undone_in_turn)))
    ≡ answer_at n (map (λ (row : Call × Answer). row.1) undone_in_turn) =
    λ n. ap (answer_at n) undone_in_turn_is.answers in
    let met : IsRedone base_opened (first 4 undone_in_turn) (latest_of_first 4 9 undone_in_turn) 2 = record {
      used = base_in_use;
      legal = subst (λ e. IsLegal base_opened (redo_entry 2 ∷ between ++ e ∷ first 4 undone_in_turn)) turn_undone
          (subst (λ e. IsLegal base_opened (e ∷ first 9 undone_in_turn)) turn_redone
          (runs_are_legal base_opened (calls_of (take 10 undone_in_turn))));
      first = λ i. undoes_or_redoes 2 (at 8 i)
          || (undoes_or_redoes 2 (at 7 i) || (undoes_or_redoes 2 (at 6 i) || (undoes_or_redoes 2 (at 5 i) || false)));
    } in record {
      met = met;
      run =
          runs_that_count_are_runs base_opened (first 4 undone_in_turn) (latest_of_first 4 9 undone_in_turn) 2 met;
    }

pub under_a_later_change : UnderALaterChange
under_a_later_change = record {
  used = base_in_use;
  legal = subst (λ e. IsLegal base_opened (e ∷ first 2 cells_apart))
      (undo_by 1 _ _ (ap (answer_at 2) cells_apart_is.answers))
      (runs_are_legal base_opened (calls_of (take 3 cells_apart)));
  accepted = ap (answer_at 0) cells_apart_is.answers;
  forward = λ i. goes_back_or_forth (ap (answer_at 1) cells_apart_is.answers i) || false;
}

abbrev in_stages_calls : List ListedCall
in_stages_calls =
    beginning (one (plain_delete (device_key 0x1003))) (plain_delete (device_key 0x1003) ∷ [])
    ∷ ordered (subchannel 1 3) Start
    ∷ enabled (subchannel 1 2) 0x80 7
    ∷ committing
    ∷ ordered (subchannel 1 2) Store
    ∷ ordered (subchannel 1 3) Store
    ∷ undoes 1
    ∷ ordered (subchannel 1 2) Store
    ∷ ordered (subchannel 1 3) Store
    ∷ []

in_stages_answers : GivesItsAnswers a_deletion_in_stages
unfolding made_by
in_stages_answers = answers_are in_stages_calls (refl, tt)

abbrev the_deletion : ChangeTree
the_deletion = leaf (deleted (device_key 0x1003))

begun_in_stages : entry_after 0 a_deletion_in_stages (begin the_deletion) ≡ begin_entry the_deletion 1
begun_in_stages = begin_by the_deletion 1 _ _ (ap (answer_at 0) in_stages_answers)

undone_in_stages : entry_after 6 a_deletion_in_stages (undo 1) ≡ undo_entry 1
undone_in_stages = undo_by 1 _ _ (ap (answer_at 6) in_stages_answers)

pub a_deletion_in_stages_is : ADeletionInStages
a_deletion_in_stages_is =
    let between : History = latest_of_first 2 3 a_deletion_in_stages in
    let since : History = latest_of_first 2 6 a_deletion_in_stages in
    let e : Entry = entry_after 3 a_deletion_in_stages commit in
    let at : (n : ℕ) → answer_at n (reverse (answers_of (history_of a_deletion_in_stages)))
    ≡ answer_at n (map (λ (row : Call × Answer). row.1) a_deletion_in_stages) =
    λ n. ap (answer_at n) in_stages_answers in
    let met : IsUndoneInStages base_opened [] (latest_of_first 2 3 a_deletion_in_stages)
    (latest_of_first 2 6 a_deletion_in_stages) the_deletion 1 1
    (entry_after 3 a_deletion_in_stages commit) = record {
      used = base_in_use;
      legal = subst (λ b. IsLegal base_opened (undo_entry 1 ∷ since ++ (e ∷ between ++ b ∷ []))) begun_in_stages
          (subst (λ u. IsLegal base_opened (u ∷ first 6 a_deletion_in_stages)) undone_in_stages
          (runs_are_legal base_opened (calls_of (take 7 a_deletion_in_stages))));
      committed = commit_call _ _;
      accepted = at 3;
      unended = λ i. ends_a_stage (at 2 i) || (ends_a_stage (at 1 i) || false);
      alone = λ i. not (alters_changes (at 5 i) || (alters_changes (at 4 i) || false));
    } in record {
      answers = in_stages_answers;
      met = met;
      run = staged_runs_are_runs base_opened [] (latest_of_first 2 3 a_deletion_in_stages)
          (latest_of_first 2 6 a_deletion_in_stages) the_deletion 1 1
          (entry_after 3 a_deletion_in_stages commit) met;
    }

abbrev given_up_calls : List ListedCall
given_up_calls =
    beginning (one (plain_delete (device_key 0x1003))) (plain_delete (device_key 0x1003) ∷ [])
    ∷ ordered (subchannel 1 3) Start
    ∷ enabled (subchannel 1 2) 0x80 7
    ∷ aborting
    ∷ ordered (subchannel 1 3) Store
    ∷ []

given_up_answers : GivesItsAnswers a_deletion_given_up
unfolding made_by
given_up_answers = answers_are given_up_calls (refl, tt)

begun_and_given_up : entry_after 0 a_deletion_given_up (begin the_deletion) ≡ begin_entry the_deletion 1
begun_and_given_up = begin_by the_deletion 1 _ _ (ap (answer_at 0) given_up_answers)

given_up : entry_after 3 a_deletion_given_up abort ≡ abort_entry
given_up = ap (plain_entry abort) (ap (answer_at 3) given_up_answers)

pub a_deletion_given_up_is : ADeletionGivenUp
a_deletion_given_up_is =
    let between : History = latest_of_first 2 3 a_deletion_given_up in
    let met : IsStagedUntil base_opened [] the_deletion 1 (latest_of_first 2 3 a_deletion_given_up) abort_entry =
    record {
      used = base_in_use;
      legal = subst (λ b. IsLegal base_opened (abort_entry ∷ between ++ b ∷ [])) begun_and_given_up
          (subst (λ e. IsLegal base_opened (e ∷ first 3 a_deletion_given_up)) given_up
          (runs_are_legal base_opened (calls_of (take 4 a_deletion_given_up))));
      unended = λ i. ends_a_stage (ap (answer_at 2) given_up_answers i)
          || (ends_a_stage (ap (answer_at 1) given_up_answers i) || false);
    } in record {
      answers = given_up_answers;
      met = met;
      run = abort_leaves_the_other_steps base_opened [] (latest_of_first 2 3 a_deletion_given_up) the_deletion 1 met;
    }

-- ---- where the run without a change isn't legal

activation_call : (p : ChangeTree) (n : ℕ) (s : State) (g : Option Stage) (o : Outcome)
    → (unless_staged g (activate p) (activated p n s o)).call ≡ activate p
activation_call p n s (Some g) o = refl
activation_call p n s None (Ok r) = refl
activation_call p n s None (Err why) = refl

-- the state after an entry is by its call and its answer
state_by_call : (x y : Entry) (h : History) → x.call ≡ y.call → x.answer ≡ y.answer
    → state_at base_opened (x ∷ h) ≡ state_at base_opened (y ∷ h)
unfolding account
state_by_call x y h call answer = λ i.
    state_in base_opened (account_after (call i) (answer i) (state_in base_opened (account base_opened h))
    (account base_opened h))

five_or_four : (a b : Option ℕ) → a ≡ Some 5 → b ≡ Some 4 → a ≡ b → ⊥
five_or_four a b five four same = cc

pub no_run_without_the_first : NoRunWithoutTheFirst
no_run_without_the_first legal =
    let e : Entry = entry_after 0 cells_apart (change_by add_0fff) in
    let second : Entry = entry_after 1 cells_apart (change_by add_1004) in
    let alone : Entry = entry_after 0 without_the_first (change_by add_1004) in
    let left : run_with_the_later e (latest_of_first 1 2 cells_apart) [] ≡ with_one_less second ∷ [] =
    ap (λ b. map with_one_less (cond b (second ∷ []) []) ++ [])
    (or_right (is_done second.call second.answer && not (is_at (altered_by e) second.call))
    (is_for_a_change second.answer) (ap is_for_a_change (ap (answer_at 1) cells_apart_is.answers))) in
    let undone : entry_after 2 cells_apart (undo 1) ≡ undo_entry 1 =
    undo_by 1 _ _ (ap (answer_at 2) cells_apart_is.answers) in
    let leads : state_at base_opened (undo_entry 1 ∷ first 2 cells_apart)
    ≡ state_at base_opened (run_with_the_later e (latest_of_first 1 2 cells_apart) []) =
    legal_runs_without_lead_there base_opened [] (latest_of_first 1 2 cells_apart) e 1 under_a_later_change legal in
    let same : state_at base_opened (with_one_less second ∷ []) ≡ state_at base_opened (alone ∷ []) =
    state_by_call (with_one_less second) alone [] (activation_call _ _ _ _ _ ∙ sym (activation_call _ _ _ _ _))
    (ap one_less (ap (answer_at 1) cells_apart_is.answers) ∙ sym (ap (answer_at 0) numbers_anew_is.answers)) in
    let five : number_of 0x1004 (state_at base_opened (undo_entry 1 ∷ first 2 cells_apart)) ≡ Some 5 =
    ap (λ u. number_of 0x1004 (state_at base_opened (u ∷ first 2 cells_apart))) (sym undone) ∙ cells_apart_is.stays in
    five_or_four _ _ five numbers_anew_is.anew (ap (number_of 0x1004) (leads ∙ ap (state_at base_opened) left ∙ same))
