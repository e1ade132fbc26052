-- What striking and restoring promise of marks.
use Rattle.std.specs.Prelude.{◌≡◌, ◌≢◌, ◌⊎◌, ℕ, ◌<◌, true, List, [], ◌∷◌}
use Rattle.iocm_types.specs.declared.sub_id.SubId.{SubId}
use Rattle.iocm_model.specs.Operation.State.{State}
use Rattle.iocm_history.specs.Entry.{History}
use Rattle.iocm_history.specs.MarkedEntry.{undone_with, MarkedEntry, is_change, is_step_on}
use Rattle.iocm_history.specs.MarkedEntry.{altered_by_change, strike, taken_back}
use Rattle.iocm_history.specs.Account.{marked_entries}
use Rattle.iocm_history.specs.StandsOn.{changes_in, numbers_of}
use Rattle.iocm_history.specs.Journal.{is_in, journal_of}
use Rattle.iocm_history.specs.Legal.{IsLegal}
use Rattle.iocm_history.specs.InUse.{IsInUse}

-- no entry is struck by an undo of this change
abbrev pub IsUnmarked : ℕ → List MarkedEntry → Type 0
IsUnmarked n [] = Unit {0}
IsUnmarked n (l ∷ ls) = (l.mark ≢ undone_with n) × IsUnmarked n ls

-- what an undo newly struck, taken back, is as it was
abbrev pub RestoringUndoesStriking : Type 0
RestoringUndoesStriking = (xs : List SubId) (n : ℕ) (ls : List MarkedEntry) → IsUnmarked n ls
    → taken_back n (strike xs n ls) ≡ ls

-- in a legal history no entry is struck by the undo of a change that stands, or that isn't there
-- yet
abbrev pub StandingChangesMarkNothing : Type 0
StandingChangesMarkNothing = (opening : State) (h : History) (n : ℕ) → IsInUse opening → IsLegal opening h
    → ((journal_of h).count < n) ⊎ (is_in n (journal_of h).standing ≡ true) → IsUnmarked n (marked_entries opening h)

-- exactly the changes that stand count
abbrev pub ChangesCountWhileTheyStand : Type 0
ChangesCountWhileTheyStand = (opening : State) (h : History) (n : ℕ) → IsInUse opening → IsLegal opening h
    → is_in n (numbers_of (changes_in (marked_entries opening h))) ≡ is_in n (journal_of h).standing

-- what is struck by the undo of a change is that change, or a step on one of these subchannels
abbrev pub AreItsOwn : ℕ → List SubId → List MarkedEntry → Type 0
AreItsOwn n xs [] = Unit {0}
AreItsOwn n xs (l ∷ ls) = (l.mark ≡ undone_with n → (is_change n l.act ≡ true) ⊎ (is_step_on xs l.act ≡ true))
    × AreItsOwn n xs ls

-- it is that change, or a step on a subchannel that it altered
abbrev pub UndosStrikeTheirOwn : Type 0
UndosStrikeTheirOwn = (opening : State) (h : History) (n : ℕ) → IsInUse opening → IsLegal opening h
    → AreItsOwn n (altered_by_change n (marked_entries opening h)) (marked_entries opening h)
