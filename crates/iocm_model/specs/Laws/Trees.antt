-- What change trees promise: an accepted tree is a run of accepted edits, and its inverse tree
-- takes it back.
use Rattle.std.specs.Prelude.{◌≤◌, ◌*◌, ◌≡◌, None, Ok}
use Rattle.iocm_model.specs.Change.Tree.{ChangeTree, leaves_of, depth_of, nodes_of}
use Rattle.iocm_model.specs.Rules.FirstBreach.{first_breach}
use Rattle.iocm_model.specs.Operation.State.{State, IsSound}
use Rattle.iocm_model.specs.Change.Runs.{state_after_all, AreAccepted}
use Rattle.iocm_model.specs.Change.Meaning.{Performed, meaning}
use Rattle.iocm_model.specs.Change.InverseTree.{inverse_tree, TakesBack}

-- a tree has at most as many nodes as its depth times its leaves: node numbers are bounded by the
-- two limits
abbrev pub NodesAreBounded : Type 0
NodesAreBounded = (p : ChangeTree) → nodes_of p ≤ depth_of p * leaves_of p

-- the rules hold in a state
abbrev pub KeepsTheRules : State → Type 0
KeepsTheRules s = first_breach s.config s.numbers ≡ None

-- an accepted tree performs edits that are accepted one after the other, and leaves a state in
-- which the rules hold
pub record IsRunFrom (s : State) (r : Performed) : Type 0 where
  pub state : r.state ≡ state_after_all r.edits s
  pub accepted : AreAccepted r.edits s
  pub rules : KeepsTheRules r.state

abbrev pub AcceptedTreesAreRuns : Type 0
AcceptedTreesAreRuns = (p : ChangeTree) (s : State) (r : Performed) → meaning p s ≡ Ok r → IsRunFrom s r

-- the inverse tree of an accepted tree takes it back
abbrev pub InverseTreesTakeBack : Type 0
InverseTreesTakeBack = (p : ChangeTree) (s : State) (r : Performed) → IsSound s → KeepsTheRules s → meaning p s ≡ Ok r
    → TakesBack (inverse_tree r.edits s) r.edits s
