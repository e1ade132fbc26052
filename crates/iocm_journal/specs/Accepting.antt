-- An entry that accepts a change, and a journal that accepts it and takes it in.
use Rattle.std.specs.Prelude.{◌≡◌, ◌+◌, true, Some, List, [], ◌∷◌, ◌++◌, Vec}
use Rattle.std.specs.declared.alloc.Global.{Global}
use Rattle.iocm_types.specs.declared.answer.Answer.TheVariants as answers
use Rattle.iocm_model.specs.Operation.State.{State}
use Rattle.iocm_model.specs.Change.InverseTree.{inverse_tree}
use Rattle.iocm_model.specs.Change.Tree.{ChangeTree}
use Rattle.iocm_history.specs.Change.{Change, effect_of_change}
use Rattle.iocm_history.specs.Entry.{Entry, History}
use Rattle.iocm_history.specs.MarkedEntry.{change_at}
use Rattle.iocm_history.specs.Account.{marked_entries}
use Rattle.iocm_history.specs.Journal.{journal_of}
use Rattle.iocm_history.specs.Legal.{IsRight}
use Rattle.iocm_tree.specs.Trees.{plain}
use Rattle.iocm_tree.specs.declared.tree.Tree.{Tree}
use Rattle.iocm_plant.specs.declared.touched.Touched.{Touched}
use Rattle.iocm_activate.specs.Done.{AreToldBy}
use Rattle.iocm_activate.specs.Effects.{effect_in}
use Rattle.iocm_activate.specs.Told.{told_of_all}
use Rattle.iocm_activate.specs.declared.effect.Effect.{Effect}
use Rattle.iocm_journal.specs.Now.{IsJournalOf}
use Rattle.iocm_journal.specs.Journaled.{Journaled}
use Rattle.iocm_journal.specs.declared.kept.Kept.{Kept}

-- an entry is right after a history, and accepts a change under the next number. The inverse tree,
-- what was performed and what was written are those of that change
pub record AcceptsAChange (opening : State) (h : History) (e : Entry)
    (inverse : ChangeTree) (performed : List Touched) (f : Effect) : Type 0 where
  pub right : IsRight opening h e
  pub answer : e.answer ≡ answers.Changed ((journal_of h).count + 1)
  pub change : Change
  pub there : change_at ((journal_of h).count + 1) (marked_entries opening (e ∷ h)) ≡ Some change
  pub takes_back : inverse ≡ inverse_tree change.edits change.from
  pub told : AreToldBy performed (told_of_all change.edits change.from)
  pub wrote : effect_in f ≡ effect_of_change change

-- a journal takes such a change in: whatever history it was of, it is of that with the entry then
abbrev pub TakesIn : ChangeTree → List Touched → Journaled → Journaled → Type 0
TakesIn inverse performed old new = (opening : State) (h : History) (fs : List Effect) (e : Entry) (f : Effect)
    → IsJournalOf opening h old fs → AcceptsAChange opening h e inverse performed f
    → IsJournalOf opening (e ∷ h) new (fs ++ f ∷ [])

-- a change that was just accepted, as it is kept: it stands, and was never undone
abbrev pub newly_kept : Tree Global → Vec Touched Global → Kept
newly_kept inverse performed = record { inverse = inverse; performed = performed; stands = true; undone_after = 0 }

-- a journal accepts a change, with the tree that takes it back and what was performed. It keeps one
-- more change, which stands, and those that were undone become past. It takes the change in
pub record Accepts (inverse : Tree Global) (performed : Vec Touched Global) (old new : Journaled) : Type 0 where
  pub changes : new.changes ≡ old.changes ++ newly_kept inverse performed ∷ []
  pub standing : new.standing ≡ old.standing + 1
  pub undone : new.undone ≡ []
  pub takes_in : TakesIn (plain inverse) performed.items old new
