-- That a change was made by edits from a state on.
use Rattle.std.specs.Prelude.{◌≡◌, List}
use Rattle.iocm_model.specs.Change.Edit.{Edit}
use Rattle.iocm_model.specs.Change.InverseTree.{inverse_tree}
use Rattle.iocm_model.specs.Operation.State.{State}
use Rattle.iocm_tree.specs.Trees.{plain}
use Rattle.iocm_activate.specs.Done.{AreToldBy}
use Rattle.iocm_activate.specs.Told.{told_of_all}
use Rattle.iocm_activate.specs.declared.done.Made.{Made}

-- what was told of it is what these edits do: the way back, and what each edit did
pub record IsMadeBy (m : Made) (es : List Edit) (s : State) : Type 0 where
  pub inverse : plain m.inverse ≡ inverse_tree es s
  pub performed : AreToldBy m.performed.items (told_of_all es s)
