-- What an undo is answered, and the order of the causes for which it is refused.
use Rattle.std.specs.Prelude.{◌≡◌, ◌≢◌, ℕ, true, false, ◌∷◌, None, Some}
use Rattle.iocm_types.specs.declared.answer.Answer.TheVariants.{Undone, Refused}
use Rattle.iocm_types.specs.declared.refused.At.TheVariants.{Subchannel, Change, Nothing}
use Rattle.iocm_types.specs.declared.rule.Rule.TheVariants.{J1, J2, B1, M1, O1}
use Rattle.iocm_types.specs.declared.sub_id.SubId.{SubId}
use Rattle.iocm_model.specs.Operation.State.{State}
use Rattle.iocm_model.specs.Change.Refusal.{refusal_at, AreQuiet}
use Rattle.iocm_history.specs.Change as change
use Rattle.iocm_history.specs.Entry.{undo, Entry, History}
use Rattle.iocm_history.specs.Fits.{fits}
use Rattle.iocm_history.specs.MarkedEntry.{altered_by_change, change_at}
use Rattle.iocm_history.specs.Account.{marked_entries, stage_of, state_at}
use Rattle.iocm_history.specs.StandsOn.{standing_on, stands_on}
use Rattle.iocm_history.specs.Journal.{is_in, journal_of}
use Rattle.iocm_history.specs.Legal.{IsLegal}
use Rattle.iocm_history.specs.InUse.{IsInUse}
use Rattle.iocm_history.specs.UndoLaws.{WaitsFor, IsGreatestOf}

-- nothing is staged, and the change stands
pub record MayStart (opening : State) (h : History) (n : ℕ) : Type 0 where
  pub idle : stage_of opening h ≡ None
  pub standing : is_in n (journal_of h).standing ≡ true

-- besides, nothing stands on it
pub record IsFree (opening : State) (h : History) (n : ℕ) : Type 0 where
  pub start : MayStart opening h n
  pub none : stands_on n (marked_entries opening h) (state_at opening h) ≡ None

-- the answer to an undo: the first of these that applies. O1, a change is staged; J1, no such
-- change stands; J2, this is the greatest change that stands on it; B1, this is the least of its
-- subchannels that isn't quiet; else it is undone. Or memory lacks
pub data UndoAnswered (opening : State) (h : History) (n : ℕ) (e : Entry) : Type 0 where
  staged : stage_of opening h ≢ None → e.answer ≡ Refused (refusal_at O1 Nothing) → UndoAnswered opening h n e
  not_standing : stage_of opening h ≡ None → is_in n (journal_of h).standing ≡ false
      → e.answer ≡ Refused (refusal_at J1 Nothing) → UndoAnswered opening h n e
  stood_on : MayStart opening h n → (k : ℕ) (c : change.Change) → change_at n (marked_entries opening h) ≡ Some c
      → IsGreatestOf k (standing_on n c (marked_entries opening h) (fits c (state_at opening h)))
      → e.answer ≡ Refused (refusal_at J2 (Change k)) → UndoAnswered opening h n e
  waits : IsFree opening h n → (x : SubId) → WaitsFor opening h n x
      → e.answer ≡ Refused (refusal_at B1 (Subchannel x)) → UndoAnswered opening h n e
  undone : IsFree opening h n → AreQuiet (state_at opening h).lives (altered_by_change n (marked_entries opening h))
      → e.answer ≡ Undone n → UndoAnswered opening h n e
  lacks_memory : MayStart opening h n → e.answer ≡ Refused (refusal_at M1 Nothing) → UndoAnswered opening h n e

abbrev pub UndoIsAnsweredInOrder : Type 0
UndoIsAnsweredInOrder = (opening : State) (h : History) (n : ℕ) (e : Entry) → IsInUse opening
    → IsLegal opening (e ∷ h) → e.call ≡ undo n
    → UndoAnswered opening h n e
