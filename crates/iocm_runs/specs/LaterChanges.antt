-- The run without an undone change under later changes: where it is a run, it leads to the state
-- after the undo.
use Rattle.std.specs.Prelude.{◌≡◌, ℕ, ◌-◌, Bool, true, false, ◌&&◌, ◌||◌, not, List, ◌∷◌, ◌++◌, filter, map}
use Rattle.std.specs.List.{list_any}
use Rattle.iocm_types.specs.declared.answer.Answer.{Answer}
use Rattle.iocm_types.specs.declared.answer.Answer.TheVariants.{Changed}
use Rattle.iocm_types.specs.declared.answer.Answer.TheVariants as answers
use Rattle.iocm_types.specs.declared.sub_id.SubId.{SubId}
use Rattle.iocm_model.specs.Operation.State.{State}
use Rattle.iocm_history.specs.Entry.{Entry, History}
use Rattle.iocm_history.specs.Account.{state_at}
use Rattle.iocm_history.specs.Legal.{IsLegal}
use Rattle.iocm_history.specs.InUse.{IsInUse}
use Rattle.iocm_history.specs.StageLaws.{is_done}
use Rattle.iocm_history.specs.UndoLaws.{undo_entry}
use Rattle.iocm_runs.specs.RunWithout.{is_at, altered_by}

-- an answer that an undo or a redo was accepted
abbrev pub goes_back_or_forth : Answer → Bool
goes_back_or_forth (answers.Undone n) = true
goes_back_or_forth (answers.Redone n) = true
goes_back_or_forth _ = false

-- an answer that a call for a change was accepted: it was made, or it was begun, advanced or given
-- up in stages
abbrev pub is_for_a_change : Answer → Bool
is_for_a_change (answers.Changed n) = true
is_for_a_change (answers.Staged k) = true
is_for_a_change (answers.Left k) = true
is_for_a_change answers.Aborted = true
is_for_a_change _ = false

-- an entry as it is with one change less before it: a change has the number before its own
abbrev pub one_less : Answer → Answer
one_less (answers.Changed n) = Changed (n - 1)
one_less answer = answer

abbrev pub with_one_less : Entry → Entry
with_one_less e = record { call = e.call; answer = one_less e.answer; effect = e.effect }

-- an entry that is left: a step that was done on none of these subchannels, or an accepted call for
-- a change
abbrev pub is_left : List SubId → Entry → Bool
is_left xs e = (is_done e.call e.answer && not (is_at xs e.call)) || is_for_a_change e.answer

-- what is left without a change of the history that had it: what was before the change, and the
-- steps since that were done elsewhere. The accepted calls for changes are left too, each change
-- with the number before its own and with what it wrote
abbrev pub run_with_the_later : Entry → History → History → History
run_with_the_later e since h = map with_one_less (filter (is_left (altered_by e)) since) ++ h

-- an entry accepted a change, and the change was undone, with no undo or redo between
pub record IsUndoneLater (opening : State) (h since : History) (e : Entry) (n : ℕ) : Type 0 where
  pub used : IsInUse opening
  pub legal : IsLegal opening (undo_entry n ∷ since ++ e ∷ h)
  pub accepted : e.answer ≡ Changed n
  pub forward : list_any (λ (l : Entry). goes_back_or_forth l.answer) since ≡ false

-- where what is left is legal, it leads to the state after the undo
abbrev pub LegalRunsWithoutLeadThere : Type 0
LegalRunsWithoutLeadThere = (opening : State) (h since : History) (e : Entry) (n : ℕ)
    → IsUndoneLater opening h since e n
    → IsLegal opening (run_with_the_later e since h)
    → state_at opening (undo_entry n ∷ since ++ e ∷ h) ≡ state_at opening (run_with_the_later e since h)
