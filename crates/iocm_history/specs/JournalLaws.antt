-- What a journal has to keep: where changes are found in a legal history, which stand on a change,
-- and what undo and redo mean there.
use Rattle.std.specs.Prelude.{◌≡◌, ◌≤◌, ℕ, ◌+◌, nat_lt, nat_le, length, true, false}
use Rattle.std.specs.Prelude.{◌&&◌, not, if◌then◌else◌, None, Some, List, ◌∷◌, ◌++◌}
use Rattle.std.specs.List.{list_any}
use Rattle.std.specs.FinMap.{get}
use Rattle.iocm_types.specs.declared.answer.Answer.TheVariants.{Changed}
use Rattle.iocm_types.specs.declared.sub_id.SubId.{SubId}
use Rattle.iocm_model.specs.Operation.State.{State, is_among}
use Rattle.iocm_model.specs.Change.Effect.{Effect}
use Rattle.iocm_model.specs.Change.InverseTree.{inverse_tree, TakesBack}
use Rattle.iocm_model.specs.Change.Meaning.{meaning, state_reached}
use Rattle.iocm_model.specs.Change.Runs.{state_after_all, inverses, AreAccepted}
use Rattle.iocm_model.specs.Change.Tree.{ChangeTree, most_leaves}
use Rattle.iocm_model.specs.Laws.Trees.{KeepsTheRules}
use Rattle.iocm_history.specs.Account.{account, marked_entries, stage_of, state_at}
use Rattle.iocm_history.specs.Change.{Change, change_of, altered}
use Rattle.iocm_history.specs.Entry.{activate, commit, Entry, History}
use Rattle.iocm_history.specs.InUse.{IsInUse}
use Rattle.iocm_history.specs.Journal.{is_in, without, journal_of}
use Rattle.iocm_history.specs.Legal.{is_last_undone, not_quiet_of, IsLegal}
use Rattle.iocm_history.specs.MarkedEntry.{change_at}
use Rattle.iocm_history.specs.RedoLaws.{redo_entry, undoes_or_redoes}
use Rattle.iocm_history.specs.Stage.{Stage}
use Rattle.iocm_history.specs.StandsOn.{greatest, standing_on, stands_on}
use Rattle.iocm_history.specs.UndoLaws.{undo_entry, IsGreatestOf}
use Rattle.iocm_history.specs.Reckoning.{last_undone, shares}

-- ---- where changes are found

-- each change that was accepted is there, by its number
abbrev pub EachChangeIsThere : Type 0
EachChangeIsThere = (opening : State) (h : History) (n : ℕ) → IsInUse opening → IsLegal opening h → 1 ≤ n
    → n ≤ (journal_of h).count
    → (c : Change) × (change_at n (marked_entries opening h) ≡ Some c)

-- and no other
abbrev pub OnlyTheseAreThere : Type 0
OnlyTheseAreThere = (opening : State) (h : History) (n : ℕ) (c : Change) → IsInUse opening → IsLegal opening h
    → change_at n (marked_entries opening h) ≡ Some c → (1 ≤ n) × (n ≤ (journal_of h).count)

-- a change that is there stays as it is, whatever entry comes
abbrev pub ChangesStayThere : Type 0
ChangesStayThere = (opening : State) (h : History) (e : Entry) (n : ℕ) → IsInUse opening
    → IsLegal opening (e ∷ h) → n ≤ (journal_of h).count
    → change_at n (marked_entries opening (e ∷ h)) ≡ change_at n (marked_entries opening h)

-- an accepted activation is the change that its tree means in the state now
abbrev pub ActivationsAreThere : Type 0
ActivationsAreThere = (opening : State) (h : History) (p : ChangeTree) (f : Effect) → IsInUse opening
    → IsLegal opening h
    → let n = (journal_of h).count + 1 in
    change_at n (marked_entries opening (record { call = activate p; answer = Changed n; effect = f } ∷ h))
    ≡ Some (change_of (meaning p (state_at opening h)) (state_at opening h))

-- an accepted Commit is the staged change
abbrev pub CommitsAreThere : Type 0
CommitsAreThere = (opening : State) (h : History) (g : Stage) (f : Effect) → IsInUse opening → IsLegal opening h
    → stage_of opening h ≡ Some g
    → let n = (journal_of h).count + 1 in
    change_at n (marked_entries opening (record { call = commit; answer = Changed n; effect = f } ∷ h)) ≡ Some g.change

-- ---- which changes stand on a change

-- a number that is the greatest of some is found, and none where there is none
abbrev pub TheGreatestIsFound : Type 0
TheGreatestIsFound = (ns : List ℕ)
    → ((k : ℕ) → IsGreatestOf k ns → greatest ns ≡ Some k)
    × (((k : ℕ) → is_in k ns ≡ false) → greatest ns ≡ None)

-- on a change that fits stand the later ones that stand and wrote a cell that it wrote
abbrev pub LaterStandOnIt : Type 0
LaterStandOnIt = (opening : State) (h : History) (n m : ℕ) (c : Change) → IsInUse opening → IsLegal opening h
    → change_at n (marked_entries opening h) ≡ Some c
    → is_in m (standing_on n c (marked_entries opening h) true)
    ≡ (nat_lt n m && (is_in m (journal_of h).standing && shares c (change_at m (marked_entries opening h))))

-- on one that doesn't fit stand the later ones that stand, and the earlier ones that don't and were
-- undone since
abbrev pub OthersStandOnIt : Type 0
OthersStandOnIt = (opening : State) (h : History) (n m : ℕ) (c : Change) → IsInUse opening → IsLegal opening h
    → change_at n (marked_entries opening h) ≡ Some c
    → is_in m (standing_on n c (marked_entries opening h) false)
    ≡ (if nat_lt n m then is_in m (journal_of h).standing
    else nat_lt m n && (not (is_in m (journal_of h).standing) && nat_le n (last_undone m h)))

-- ---- what undo and redo mean

-- where an undo may be accepted, it is, and does what the inverse tree of its change means
abbrev pub UndoMeansTheUndo : Type 0
UndoMeansTheUndo = (opening : State) (h : History) (n : ℕ) (c : Change) → IsInUse opening → IsLegal opening h
    → stage_of opening h ≡ None → is_in n (journal_of h).standing ≡ true
    → stands_on n (marked_entries opening h) (state_at opening h) ≡ None
    → not_quiet_of n (state_at opening h) (account opening h) ≡ None → change_at n (marked_entries opening h) ≡ Some c
    → IsLegal opening (undo_entry n ∷ h)
    × (state_reached (meaning (inverse_tree c.edits c.from) (state_at opening h))
    ≡ Some (state_at opening (undo_entry n ∷ h)))

-- where a redo may be accepted, with no undo or redo of its change since the last undo, it is, and
-- does what any tree means that takes back what the undo did
abbrev pub RedoMeansTheRedo : Type 0
RedoMeansTheRedo = (opening : State) (h between : History) (n : ℕ) (c : Change) (t : ChangeTree) → IsInUse opening
    → let now = between ++ undo_entry n ∷ h in
    IsLegal opening now → list_any (λ (e : Entry). undoes_or_redoes n e.answer) between ≡ false
    → is_last_undone n (journal_of now).undone ≡ true → stage_of opening now ≡ None
    → not_quiet_of n (state_at opening now) (account opening now) ≡ None
    → change_at n (marked_entries opening h) ≡ Some c → TakesBack t (inverses c.edits c.from) (state_at opening h)
    → IsLegal opening (redo_entry n ∷ now)
    × (state_reached (meaning t (state_at opening now)) ≡ Some (state_at opening (redo_entry n ∷ now)))

-- ---- numbers, and what is staged

-- no more changes were accepted than entries came
abbrev pub ChangesAreEntries : Type 0
ChangesAreEntries = (opening : State) (h : History) → IsInUse opening → IsLegal opening h
    → (journal_of h).count ≤ length h

-- changes that stand were accepted
abbrev pub StandingWereAccepted : Type 0
StandingWereAccepted = (opening : State) (h : History) (n : ℕ) → IsInUse opening → IsLegal opening h
    → is_in n (journal_of h).standing ≡ true → (1 ≤ n) × (n ≤ (journal_of h).count)

-- and so were changes that are undone; these don't stand
abbrev pub UndoneWereAccepted : Type 0
UndoneWereAccepted = (opening : State) (h : History) (n : ℕ) → IsInUse opening → IsLegal opening h
    → is_in n (journal_of h).undone ≡ true
    → (1 ≤ n) × (n ≤ (journal_of h).count) × (is_in n (journal_of h).standing ≡ false)

-- without a change that stands, one less stands
abbrev pub OneLessStands : Type 0
OneLessStands = (opening : State) (h : History) (n : ℕ) → IsInUse opening → IsLegal opening h
    → is_in n (journal_of h).standing ≡ true
    → length (without n (journal_of h).standing) + 1 ≡ length (journal_of h).standing

-- without a change that is undone, one less is undone
abbrev pub OneLessIsUndone : Type 0
OneLessIsUndone = (opening : State) (h : History) (n : ℕ) → IsInUse opening → IsLegal opening h
    → is_in n (journal_of h).undone ≡ true → length (without n (journal_of h).undone) + 1 ≡ length (journal_of h).undone

-- a change as it was made: in a state in use, where its edits were accepted; there are no more of
-- them than a tree may have leaves, and they left a state in which the rules hold
pub record IsMade (c : Change) : Type 0 where
  pub used : IsInUse c.from
  pub accepted : AreAccepted c.edits c.from
  pub few : length c.edits ≤ most_leaves
  pub rules : KeepsTheRules (state_after_all c.edits c.from)

-- each change that is there was made so
abbrev pub ChangesWereMade : Type 0
ChangesWereMade = (opening : State) (h : History) (n : ℕ) (c : Change) → IsInUse opening → IsLegal opening h
    → change_at n (marked_entries opening h) ≡ Some c → IsMade c

-- a change is ready in a state: the state where it was made has the same configuration and numbers,
-- and the same live records of the subchannels that it alters
pub record IsReadyIn (c : Change) (s : State) : Type 0 where
  pub was_made : IsMade c
  pub config : s.config ≡ c.from.config
  pub numbers : s.numbers ≡ c.from.numbers
  pub lives : (x : SubId) → is_among x (altered c) ≡ true → get s.lives x ≡ get c.from.lives x

-- what is staged is ready
abbrev pub StagesAreReady : Type 0
StagesAreReady = (opening : State) (h : History) (g : Stage) → IsInUse opening → IsLegal opening h
    → stage_of opening h ≡ Some g
    → IsReadyIn g.change (state_at opening h)
