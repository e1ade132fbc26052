-- What a redo is answered, and the order of the causes for which it is refused.
use Rattle.std.specs.Prelude.{◌≡◌, ◌≢◌, ◌⊎◌, ◌≤◌, ◌<◌, ℕ, true, false, List, ◌∷◌, None}
use Rattle.iocm_types.specs.declared.answer.Answer.TheVariants.{Redone, Refused}
use Rattle.iocm_types.specs.declared.refused.At.TheVariants.{Subchannel, Nothing}
use Rattle.iocm_types.specs.declared.rule.Rule.TheVariants.{J1, J3, B1, M1, O1}
use Rattle.iocm_types.specs.declared.sub_id.SubId.{SubId}
use Rattle.iocm_model.specs.Operation.State.{State}
use Rattle.iocm_model.specs.Change.Refusal.{refusal_at, AreQuiet}
use Rattle.iocm_history.specs.Entry.{redo, Entry, History}
use Rattle.iocm_history.specs.MarkedEntry.{altered_by_change}
use Rattle.iocm_history.specs.Account.{marked_entries, stage_of, state_at}
use Rattle.iocm_history.specs.Journal.{Journal, is_in, journal_of}
use Rattle.iocm_history.specs.Legal.{IsLegal}
use Rattle.iocm_history.specs.InUse.{IsInUse}
use Rattle.iocm_history.specs.UndoLaws.{WaitsFor}

-- a change was undone last of those that are undone
abbrev pub WasUndoneLast : ℕ → Journal → Type 0
WasUndoneLast n b = (us : List ℕ) × (b.undone ≡ n ∷ us)

-- a change was never there, or stands: there is nothing to redo
abbrev pub IsNotUndone : ℕ → Journal → Type 0
IsNotUndone n b = (n ≡ 0) ⊎ ((b.count < n) ⊎ (is_in n b.standing ≡ true))

-- a change is past: it was accepted, and neither stands nor is undone any more
pub record IsPast (n : ℕ) (b : Journal) : Type 0 where
  pub given : 1 ≤ n
  pub counted : n ≤ b.count
  pub not_standing : is_in n b.standing ≡ false
  pub not_undone : is_in n b.undone ≡ false

-- the answer to a redo: the first of these that applies. O1, a change is staged; J1, the change was
-- never there, or stands; J3, it is past, or another was undone after it; B1, this is the least of
-- its subchannels that isn't quiet; else it is redone, or memory lacks for that
pub data RedoAnswered (opening : State) (h : History) (n : ℕ) (e : Entry) : Type 0 where
  staged : stage_of opening h ≢ None → e.answer ≡ Refused (refusal_at O1 Nothing) → RedoAnswered opening h n e
  not_undone : stage_of opening h ≡ None → IsNotUndone n (journal_of h)
      → e.answer ≡ Refused (refusal_at J1 Nothing) → RedoAnswered opening h n e
  past : stage_of opening h ≡ None → IsPast n (journal_of h) → e.answer ≡ Refused (refusal_at J3 Nothing)
      → RedoAnswered opening h n e
  not_last : stage_of opening h ≡ None → is_in n (journal_of h).undone ≡ true → (WasUndoneLast n (journal_of h) → ⊥)
      → e.answer ≡ Refused (refusal_at J3 Nothing) → RedoAnswered opening h n e
  waits : stage_of opening h ≡ None → WasUndoneLast n (journal_of h) → (x : SubId) → WaitsFor opening h n x
      → e.answer ≡ Refused (refusal_at B1 (Subchannel x)) → RedoAnswered opening h n e
  redone : stage_of opening h ≡ None → WasUndoneLast n (journal_of h)
      → AreQuiet (state_at opening h).lives (altered_by_change n (marked_entries opening h))
      → e.answer ≡ Redone n → RedoAnswered opening h n e
  lacks_memory : stage_of opening h ≡ None → WasUndoneLast n (journal_of h)
      → AreQuiet (state_at opening h).lives (altered_by_change n (marked_entries opening h))
      → e.answer ≡ Refused (refusal_at M1 Nothing) → RedoAnswered opening h n e

abbrev pub RedoIsAnsweredInOrder : Type 0
RedoIsAnsweredInOrder = (opening : State) (h : History) (n : ℕ) (e : Entry) → IsInUse opening
    → IsLegal opening (e ∷ h) → e.call ≡ redo n
    → RedoAnswered opening h n e
