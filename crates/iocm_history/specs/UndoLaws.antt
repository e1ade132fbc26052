-- What an undo does in a legal history, and when it is refused.
use Rattle.std.specs.Prelude.{◌≤◌, ◌≡◌, ◌⊎◌, ◌≢◌, ℕ, true, false, Some, None, List, [], ◌∷◌, map, if◌then◌else◌}
use Rattle.iocm_types.specs.declared.answer.Answer.TheVariants.{Undone, Refused}
use Rattle.iocm_types.specs.declared.refused.At.TheVariants.{Subchannel, Change, Nothing}
use Rattle.iocm_types.specs.declared.rule.Rule.TheVariants.{J1, J2, B1, M1, O1}
use Rattle.std.specs.declared.cmp.Ordering.TheVariants.{Less}
use Rattle.iocm_types.specs.declared.sub_id.SubId.{SubId}
use Rattle.iocm_types.specs.SubId.{sub_id_cmp}
use Rattle.iocm_model.specs.Operation.State.{State, is_among}
use Rattle.iocm_model.specs.Change.Refusal.{refusal_at, is_not_quiet}
use Rattle.iocm_model.specs.Change.Runs.{state_after_all, inverses, AreAccepted}
use Rattle.iocm_model.specs.Change.InverseTree.{inverse_tree}
use Rattle.iocm_model.specs.Change.Meaning.{meaning, state_reached}
use Rattle.std.specs.FinMap.{get}
use Rattle.iocm_history.specs.Change as change
use Rattle.iocm_history.specs.Change.{values_before, altered}
use Rattle.iocm_history.specs.Entry.{undo, Entry, History, plain_entry}
use Rattle.iocm_history.specs.Fits.{fits}
use Rattle.iocm_history.specs.Store.{Store, store_of, store_with}
use Rattle.iocm_history.specs.MarkedEntry.{Mark, undone_with, MarkedEntry, is_change, is_step_on, struck_if}
use Rattle.iocm_history.specs.MarkedEntry.{without_change, altered_by_change, change_at}
use Rattle.iocm_history.specs.Account.{replay, marked_entries, stage_of, state_at}
use Rattle.iocm_history.specs.StandsOn.{since, standing_on, stands_on}
use Rattle.iocm_history.specs.Journal.{is_in, journal_of}
use Rattle.iocm_history.specs.Legal.{IsLegal}
use Rattle.iocm_history.specs.InUse.{IsInUse}

-- an accepted undo
abbrev pub undo_entry : ℕ → Entry
undo_entry n = plain_entry (undo n) (Undone n)

-- entries, of which each step on these subchannels is struck
abbrev pub struck_steps : List SubId → Mark → List MarkedEntry → List MarkedEntry
struck_steps xs by ls = map (λ (l : MarkedEntry). struck_if (is_step_on xs l.act) by l) ls

-- the entries before a change
abbrev pub before : ℕ → List MarkedEntry → List MarkedEntry
before n [] = []
before n (l ∷ ls) = if is_change n l.act then ls else before n ls

-- an undo leaves the run without the change: what was before the change, and what came since,
-- without the steps on the subchannels that it altered
abbrev pub UndoLeavesTheRunWithout : Type 0
UndoLeavesTheRunWithout = (m : Store) (n : ℕ) (ls : List MarkedEntry)
    → replay m (without_change n ls)
    ≡ replay (replay m (before n ls)) (struck_steps (altered_by_change n ls) (undone_with n) (since n ls))

-- an undo puts the cells that the change wrote back as they were before it, and leaves all others
abbrev pub UndoPutsTheCellsBack : Type 0
UndoPutsTheCellsBack = (opening : State) (h : History) (n : ℕ) (c : change.Change) → IsInUse opening
    → IsLegal opening (undo_entry n ∷ h)
    → change_at n (marked_entries opening h) ≡ Some c
    → store_of (state_at opening (undo_entry n ∷ h)) ≡ store_with (values_before c) (store_of (state_at opening h))

-- that is what the inverses of its edits do, performed in the state now, where each is accepted
abbrev pub UndoDoesWhatTheInversesDo : Type 0
UndoDoesWhatTheInversesDo = (opening : State) (h : History) (n : ℕ) (c : change.Change) → IsInUse opening
    → IsLegal opening (undo_entry n ∷ h)
    → change_at n (marked_entries opening h) ≡ Some c
    → AreAccepted (inverses c.edits c.from) (state_at opening h)
    × (state_at opening (undo_entry n ∷ h) ≡ state_after_all (inverses c.edits c.from) (state_at opening h))

-- and what its inverse tree means in the state now
abbrev pub UndoDoesWhatTheInverseTreeDoes : Type 0
UndoDoesWhatTheInverseTreeDoes = (opening : State) (h : History) (n : ℕ) (c : change.Change) → IsInUse opening
    → IsLegal opening (undo_entry n ∷ h)
    → change_at n (marked_entries opening h) ≡ Some c
    → state_reached (meaning (inverse_tree c.edits c.from) (state_at opening h))
    ≡ Some (state_at opening (undo_entry n ∷ h))

-- a standing change is there
abbrev pub StandingChangesAreThere : Type 0
StandingChangesAreThere = (opening : State) (h : History) (n : ℕ) → IsInUse opening → IsLegal opening h
    → is_in n (journal_of h).standing ≡ true
    → (c : change.Change) × (change_at n (marked_entries opening h) ≡ Some c)

-- a standing change on which nothing stands fits: so where one doesn't fit, J2 has a change to name
abbrev pub StandingChangesFit : Type 0
StandingChangesFit = (opening : State) (h : History) (n : ℕ) (c : change.Change) → IsInUse opening
    → IsLegal opening h → is_in n (journal_of h).standing ≡ true
    → change_at n (marked_entries opening h) ≡ Some c
    → stands_on n (marked_entries opening h) (state_at opening h) ≡ None → fits c (state_at opening h) ≡ true

-- of the subchannels that the change altered this is the least that isn't quiet
pub record WaitsFor (opening : State) (h : History) (n : ℕ) (x : SubId) : Type 0 where
  pub altered : is_among x (altered_by_change n (marked_entries opening h)) ≡ true
  pub not_quiet : is_not_quiet (get (state_at opening h).lives x) ≡ true
  pub least : (y : SubId) → is_among y (altered_by_change n (marked_entries opening h)) ≡ true → sub_id_cmp y x ≡ Less
      → is_not_quiet (get (state_at opening h).lives y) ≡ false

-- a number is the greatest of some
pub record IsGreatestOf (k : ℕ) (ns : List ℕ) : Type 0 where
  pub among : is_in k ns ≡ true
  pub bounds : (j : ℕ) → is_in j ns ≡ true → j ≤ k

-- why an undo is refused: a change is staged; no such change stands; this is the greatest change
-- that stands on it; this is the least of its subchannels that isn't quiet; memory lacks, where it
-- stands and nothing is staged
pub data IsRefusedFor (opening : State) (h : History) (n : ℕ) (e : Entry) : Type 0 where
  staged : stage_of opening h ≢ None → e.answer ≡ Refused (refusal_at O1 Nothing) → IsRefusedFor opening h n e
  not_standing : is_in n (journal_of h).standing ≡ false → e.answer ≡ Refused (refusal_at J1 Nothing)
      → IsRefusedFor opening h n e
  stood_on : (k : ℕ) (c : change.Change) → change_at n (marked_entries opening h) ≡ Some c
      → IsGreatestOf k (standing_on n c (marked_entries opening h) (fits c (state_at opening h)))
      → e.answer ≡ Refused (refusal_at J2 (Change k)) → IsRefusedFor opening h n e
  waits : (x : SubId) → WaitsFor opening h n x → e.answer ≡ Refused (refusal_at B1 (Subchannel x))
      → IsRefusedFor opening h n e
  lacks_memory : stage_of opening h ≡ None → is_in n (journal_of h).standing ≡ true
      → e.answer ≡ Refused (refusal_at M1 Nothing) → IsRefusedFor opening h n e

-- an undo is accepted, or refused for one of these
abbrev pub UndoIsRefusedOnlyFor : Type 0
UndoIsRefusedOnlyFor = (opening : State) (h : History) (n : ℕ) (e : Entry) → IsInUse opening
    → IsLegal opening (e ∷ h) → e.call ≡ undo n
    → (e.answer ≡ Undone n) ⊎ IsRefusedFor opening h n e
