-- Edits that are done one after the other without memory: those that were, and those that are left.
use Rattle.std.specs.Prelude.{◌≡◌, List, map}
use Rattle.iocm_model.specs.Operation.State.{State}
use Rattle.iocm_model.specs.Change.Edit.{Edit}
use Rattle.iocm_model.specs.Change.Runs.{inverses, state_after_all}
use Rattle.iocm_tree.specs.Carried.{Carried}
use Rattle.iocm_plant.specs.Operating.{Operating}
use Rattle.iocm_activate.specs.Told.{LeadsTo}
use Rattle.iocm_stage.specs.Again.{all_again}

-- the edits, without their room
abbrev pub edits_in : List Carried → List Edit
edits_in is = map (λ (i : Carried). i.edit) is

-- of edits that were performed from a state on, and taken back, the first were done again on a
-- machine, which was in another state before: some edits take these back, the last one first, and
-- lead to that state; others do the rest again, and lead to the state after all
pub record StandsAlong (first rest : List Edit) (from before : State) (behind ahead : List Carried)
    (p : Operating) : Type 0 where
  pub state : p.state ≡ state_after_all first before
  pub back_edits : edits_in behind ≡ inverses first from
  pub forward_edits : edits_in ahead ≡ all_again rest (state_after_all first from)
  pub back : LeadsTo behind before p
  pub forward : LeadsTo ahead (state_after_all rest (state_after_all first before)) p
