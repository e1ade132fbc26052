-- Histories in which each undo is of the latest standing change: there every step that counts may
-- be decided anew, nothing stands on the latest, and only later standing changes stand on a
-- standing one.
use Rattle.std.specs.Prelude.{◌≡◌, ◌≢◌, ◌<◌, ◌⊎◌, ℕ, true, List, [], ◌∷◌, Some, None}
use Rattle.iocm_types.specs.declared.answer.Answer.TheVariants.{Undone, Refused}
use Rattle.iocm_types.specs.declared.refused.At.TheVariants.{Subchannel, Nothing}
use Rattle.iocm_types.specs.declared.rule.Rule.TheVariants.{B1, M1, O1}
use Rattle.iocm_types.specs.declared.sub_id.SubId.{SubId}
use Rattle.iocm_model.specs.Operation.State.{State}
use Rattle.iocm_model.specs.Operation.Step.{after_step}
use Rattle.iocm_model.specs.Change.Effect.{with_effect}
use Rattle.iocm_model.specs.Change.Refusal.{refusal_at}
use Rattle.iocm_history.specs.Entry.{undo, Entry, History}
use Rattle.iocm_history.specs.Change.{Change, effect_of_change}
use Rattle.iocm_history.specs.Fits.{fits}
use Rattle.iocm_history.specs.MarkedEntry.{Act, step, change, undoing, nothing, Mark, kept, MarkedEntry, change_at}
use Rattle.iocm_history.specs.Account.{marked_entries, stage_of, state_at}
use Rattle.iocm_history.specs.StandsOn.{greatest, standing_on, stands_on}
use Rattle.iocm_history.specs.Journal.{is_in, journal_of}
use Rattle.iocm_history.specs.Legal.{IsLegal}
use Rattle.iocm_history.specs.InUse.{IsInUse}
use Rattle.iocm_history.specs.UndoLaws.{WaitsFor}

-- what an act does to a state if it is decided there: a step steps, a change writes its cells
abbrev pub done_anew : Act → State → State
done_anew (step x made l) s = after_step x made s
done_anew (change n c) s = with_effect (effect_of_change c) s
done_anew (undoing n) s = s
done_anew nothing s = s

-- unless it is struck
abbrev pub done_anew_if_kept : Mark → Act → State → State
done_anew_if_kept kept a s = done_anew a s
done_anew_if_kept _ a s = s

-- marked entries, the latest first, each decided anew in the state that the older ones leave
abbrev pub replay_anew : State → List MarkedEntry → State
replay_anew s [] = s
replay_anew s (l ∷ ls) = done_anew_if_kept l.mark l.act (replay_anew s ls)

-- each accepted undo is of the latest change that stands
abbrev pub UndoesTheLatest : History → Type 0
UndoesTheLatest [] = Unit {0}
UndoesTheLatest (e ∷ h) = ((n : ℕ) → e.answer ≡ Undone n → greatest (journal_of h).standing ≡ Some n)
    × UndoesTheLatest h

-- then the state is that of the entries decided anew
abbrev pub StepsMayBeDecidedAnew : Type 0
StepsMayBeDecidedAnew = (opening : State) (h : History) → IsInUse opening → IsLegal opening h → UndoesTheLatest h
    → state_at opening h ≡ replay_anew opening (marked_entries opening h)

-- why an undo has to wait though nothing stands on its change: a change is staged; this is the
-- least of its subchannels that isn't quiet; memory lacks, where nothing is staged
pub data HasToWait (opening : State) (h : History) (n : ℕ) (e : Entry) : Type 0 where
  for_the_stage : stage_of opening h ≢ None → e.answer ≡ Refused (refusal_at O1 Nothing) → HasToWait opening h n e
  for_quiet : (x : SubId) → WaitsFor opening h n x → e.answer ≡ Refused (refusal_at B1 (Subchannel x))
      → HasToWait opening h n e
  for_memory : stage_of opening h ≡ None → e.answer ≡ Refused (refusal_at M1 Nothing) → HasToWait opening h n e

-- nothing stands on the latest standing change: its undo is accepted, or has to wait
abbrev pub LatestIsNeverBlocked : Type 0
LatestIsNeverBlocked = (opening : State) (h : History) (n : ℕ) → IsInUse opening → IsLegal opening h → UndoesTheLatest h
    → greatest (journal_of h).standing ≡ Some n
    → (stands_on n (marked_entries opening h) (state_at opening h) ≡ None)
    × ((e : Entry) → IsLegal opening (e ∷ h) → e.call ≡ undo n → (e.answer ≡ Undone n) ⊎ HasToWait opening h n e)

-- what stands on a standing change stands too, and is later: nothing that was undone is in the way
abbrev pub OnlyLaterStandingChangesStandOn : Type 0
OnlyLaterStandingChangesStandOn = (opening : State) (h : History) (n m : ℕ) (c : Change) → IsInUse opening
    → IsLegal opening h → UndoesTheLatest h
    → is_in n (journal_of h).standing ≡ true → change_at n (marked_entries opening h) ≡ Some c
    → is_in m (standing_on n c (marked_entries opening h) (fits c (state_at opening h))) ≡ true
    → (is_in m (journal_of h).standing ≡ true) × (n < m)
