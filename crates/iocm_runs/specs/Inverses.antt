-- The inverse tree of each change that was accepted takes it back: of accepted edits, of changes
-- that are there, and of what is staged.
use Rattle.std.specs.Prelude.{◌≡◌, ◌≤◌, ℕ, length, List, Some}
use Rattle.iocm_model.specs.Operation.State.{State, IsSound}
use Rattle.iocm_model.specs.Change.Edit.{Edit}
use Rattle.iocm_model.specs.Change.InverseTree.{inverse_tree, TakesBack}
use Rattle.iocm_model.specs.Change.Runs.{AreAccepted}
use Rattle.iocm_model.specs.Change.Tree.{most_leaves}
use Rattle.iocm_model.specs.Laws.Trees.{KeepsTheRules}
use Rattle.iocm_history.specs.Account.{marked_entries, stage_of}
use Rattle.iocm_history.specs.Change.{Change}
use Rattle.iocm_history.specs.Entry.{History}
use Rattle.iocm_history.specs.InUse.{IsInUse}
use Rattle.iocm_history.specs.Legal.{IsLegal}
use Rattle.iocm_history.specs.MarkedEntry.{change_at}
use Rattle.iocm_history.specs.Stage.{Stage}

-- the inverse tree of edits that are accepted one after the other takes them back. The rules held
-- before them, and there are no more of them than a tree may have leaves
abbrev pub InversesOfEditsTakeBack : Type 0
InversesOfEditsTakeBack = (es : List Edit) (s : State) → IsSound s → KeepsTheRules s → AreAccepted es s
    → length es ≤ most_leaves
    → TakesBack (inverse_tree es s) es s

-- the inverse tree of a change takes its edits back, at every state with the configuration and the
-- numbers that the change left
abbrev pub IsTakenBackByItsInverse : Change → Type 0
IsTakenBackByItsInverse c = TakesBack (inverse_tree c.edits c.from) c.edits c.from

-- so it is of each change that was accepted, whether it stands, is undone, or is past
abbrev pub InversesOfChangesTakeBack : Type 0
InversesOfChangesTakeBack = (opening : State) (h : History) (n : ℕ) (c : Change) → IsInUse opening → IsLegal opening h
    → change_at n (marked_entries opening h) ≡ Some c → IsTakenBackByItsInverse c

-- and of a change that is staged
abbrev pub InversesOfStagesTakeBack : Type 0
InversesOfStagesTakeBack = (opening : State) (h : History) (g : Stage) → IsInUse opening → IsLegal opening h
    → stage_of opening h ≡ Some g → IsTakenBackByItsInverse g.change
