-- The way back of the change of a difference.
use Rattle.std.specs.Prelude.{◌≡◌, Ok, List, [], ◌∷◌, ◌++◌}
use Rattle.std.specs.List.Sorted.{IsPermutation}
use Rattle.iocm_model.specs.Machine.Configuration.{Configuration, IsKeyed}
use Rattle.iocm_model.specs.Operation.State.{opening_state}
use Rattle.iocm_model.specs.Laws.Trees.{KeepsTheRules}
use Rattle.iocm_model.specs.Change.Edit.{Action}
use Rattle.iocm_model.specs.Change.InverseTree.{inverse_tree}
use Rattle.iocm_model.specs.Change.Meaning.{Performed, meaning}
use Rattle.iocm_model.specs.Change.Tree.{ChangeTree, Parts, leaf, row, group, choose, none, part}
use Rattle.iocm_tree.specs.Trees.{CarriedTree, plain_tree}
use Rattle.iocm_difference.specs.Difference.{difference}
use Rattle.iocm_difference_laws.specs.Meaning.{IsTreeOfActions}

abbrev mutual
  -- the actions of a tree's edits, in order
  pub actions_in : ChangeTree → List Action
  actions_in (leaf e) = e.action ∷ []
  actions_in (row ps) = actions_among ps
  actions_in (group ps) = actions_among ps
  actions_in (choose ps) = actions_among ps

  pub actions_among : Parts → List Action
  actions_among none = []
  actions_among (part p ps) = actions_in p ++ actions_among ps

-- where the change of a difference is accepted, its inverse tree has, in some order, exactly the
-- actions of the difference the other way round
abbrev pub InverseIsTheOtherDifference : Type 0
InverseIsTheOtherDifference = (c d : Configuration) (t : CarriedTree) (r : Performed) → IsKeyed d
    → KeepsTheRules (opening_state d) → IsTreeOfActions (difference c d) t
    → meaning (plain_tree t) (opening_state c) ≡ Ok r
    → IsPermutation (actions_in (inverse_tree r.edits (opening_state c))) (difference d c)
