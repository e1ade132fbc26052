-- Edits and trees that can be performed on a machine without memory, to some state.
use Rattle.std.specs.Prelude.{List}
use Rattle.iocm_model.specs.Operation.State.{State}
use Rattle.iocm_tree.specs.Carried.{Carried}
use Rattle.iocm_tree.specs.Trees.{CarriedTree}
use Rattle.iocm_plant.specs.Operating.{Operating}
use Rattle.iocm_activate.specs.Done.{IsWayBack}
use Rattle.iocm_activate.specs.Told.{LeadsTo}

-- edits can be performed one after the other
pub record LeadsOn (is : List Carried) (p : Operating) : Type 0 where
  pub state : State
  pub leads : LeadsTo is state p

-- a tree is one Row of edits that can be
pub record GoesBack (t : CarriedTree) (p : Operating) : Type 0 where
  pub state : State
  pub way : IsWayBack t state p
