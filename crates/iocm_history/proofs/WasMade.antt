-- Changes as they were made: their edits were accepted in a state in use, and left one in which the
-- rules hold.
use Rattle.std.proofs.Common.{◌≡◌, ◌≤◌, length, Ok, sym, subst}
use Rattle.iocm_model.specs.Operation.State.{State}
use Rattle.iocm_model.specs.Change.Tree.{ChangeTree, most_leaves}
use Rattle.iocm_model.specs.Change.Meaning.{Performed, meaning}
use Rattle.iocm_model.specs.Change.Runs.{state_after_all, AreAccepted, CarryFreeNumbers}
use Rattle.iocm_model.specs.Laws.Trees.{KeepsTheRules, IsRunFrom}
use Rattle.iocm_model.proofs.Change.RunsGoBack.{accepted_carry, stays_sound}
use Rattle.iocm_model.proofs.Change.Trees.{accepted_trees_are_runs, few_performed}
use Rattle.iocm_history.specs.Change.{Change, change_of}
use Rattle.iocm_history.specs.InUse.{IsInUse}

pub record WasMade (c : Change) : Type 0 where
  pub used : IsInUse c.from
  pub accepted : AreAccepted c.edits c.from
  pub few : length c.edits ≤ most_leaves
  pub rules : KeepsTheRules (state_after_all c.edits c.from)

-- its edits carried no number that was taken
pub carried_free : (c : Change) → WasMade c → CarryFreeNumbers c.edits c.from
carried_free c was = accepted_carry c.edits c.from was.accepted

-- and left a state in use
pub left_in_use : (c : Change) → WasMade c → IsInUse (state_after_all c.edits c.from)
left_in_use c was = record { sound = stays_sound c.edits c.from was.used.sound (carried_free c was); rules = was.rules }

-- the change that an accepted tree means was made so
pub was_meant : (p : ChangeTree) (s : State) (done : Performed) → IsInUse s → meaning p s ≡ Ok done
    → WasMade (change_of (meaning p s) s)
was_meant p s done used is =
    let run : IsRunFrom s done = accepted_trees_are_runs p s done is in
    subst (λ o. WasMade (change_of o s)) (sym is) (record {
      used = used;
      accepted = run.accepted;
      few = few_performed p s done is;
      rules = subst KeepsTheRules run.state run.rules;
    })
