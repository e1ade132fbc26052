-- What each call does to the state of a legal history.
use Rattle.std.specs.Prelude.{◌≡◌, ◌⊎◌, ℕ, false, Ok, List, ◌∷◌}
use Rattle.iocm_types.specs.declared.answer.Answer.{Answer}
use Rattle.iocm_types.specs.declared.answer.Answer.TheVariants.{Held, Changed, Staged, Left, Aborted, Shown, Refused}
use Rattle.iocm_types.specs.declared.answer.Answer.TheVariants as answers
use Rattle.iocm_types.specs.declared.refused.At.TheVariants.{Nothing}
use Rattle.iocm_types.specs.declared.rule.Rule.TheVariants.{M1}
use Rattle.iocm_types.specs.declared.sub_id.SubId.{SubId}
use Rattle.iocm_model.specs.Operation.State.{State}
use Rattle.iocm_model.specs.Operation.Step.{Step, answer_in, after_step}
use Rattle.iocm_model.specs.Change.Refusal.{refusal_at}
use Rattle.iocm_model.specs.Change.Runs.{effect_of}
use Rattle.iocm_model.specs.Change.Tree.{ChangeTree}
use Rattle.iocm_model.specs.Change.Meaning.{Performed, meaning}
use Rattle.iocm_history.specs.Entry.{Call, at, activate, begin, Entry, History, plain_entry}
use Rattle.iocm_history.specs.Account.{state_at}
use Rattle.iocm_history.specs.Legal.{is_within_limits, IsLegal}
use Rattle.iocm_history.specs.Run.{run}
use Rattle.iocm_history.specs.InUse.{IsInUse}

-- a run of calls is a legal history
abbrev pub RunsAreLegal : Type 0
RunsAreLegal = (opening : State) (calls : List Call) → IsLegal opening (run opening calls)

-- from a state in use, every legal history leads to one
abbrev pub StatesStayInUse : Type 0
StatesStayInUse = (opening : State) (h : History) → IsInUse opening → IsLegal opening h → IsInUse (state_at opening h)

-- a step that isn't held is done in the state now
abbrev pub StepsStep : Type 0
StepsStep = (opening : State) (h : History) (x : SubId) (made : Step) → IsInUse opening → IsLegal opening h
    → state_at opening (plain_entry (at x made) (answer_in (state_at opening h) x made) ∷ h)
    ≡ after_step x made (state_at opening h)

-- the activation of a change: what its edits write
abbrev pub activation_of : ChangeTree → ℕ → Performed → State → Entry
activation_of p n done s = record { call = activate p; answer = Changed n; effect = effect_of done.edits s }

-- an accepted activation leaves what its tree means in the state now
abbrev pub ActivationsDoWhatTheyMean : Type 0
ActivationsDoWhatTheyMean = (opening : State) (h : History) (p : ChangeTree) (n : ℕ) (done : Performed)
    → IsInUse opening → IsLegal opening h → meaning p (state_at opening h) ≡ Ok done
    → state_at opening (activation_of p n done (state_at opening h) ∷ h) ≡ done.state

-- a change tree over a limit is never refused for lack of memory
abbrev pub TreesOverALimitWantNoMemory : Type 0
TreesOverALimitWantNoMemory = (opening : State) (h : History) (p : ChangeTree) (e : Entry) → IsLegal opening (e ∷ h)
    → (e.call ≡ activate p) ⊎ (e.call ≡ begin p) → is_within_limits p ≡ false
    → e.answer ≡ Refused (refusal_at M1 Nothing) → ⊥

-- the answers that tell that the state stays: a call was refused, or held; it began, advanced or
-- aborted a change in stages; it showed counts
abbrev pub LeavesTheState : Answer → Type 0
LeavesTheState Held = Unit {0}
LeavesTheState (Staged k) = Unit {0}
LeavesTheState (Left k) = Unit {0}
LeavesTheState Aborted = Unit {0}
LeavesTheState (Shown counts) = Unit {0}
LeavesTheState (answers.Refused why) = Unit {0}
LeavesTheState _ = ⊥

-- after these the state is the one before
abbrev pub OtherCallsLeaveTheState : Type 0
OtherCallsLeaveTheState = (opening : State) (h : History) (e : Entry) → IsInUse opening
    → IsLegal opening (e ∷ h) → LeavesTheState e.answer
    → state_at opening (e ∷ h) ≡ state_at opening h
