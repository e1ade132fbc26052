-- What performing an edit does, and the edit that takes it back, as it is made of that.
use Rattle.std.specs.Prelude.{◌≡◌}
use Rattle.std.specs.Map.{keys_of}
use Rattle.std.specs.FinMap.{from_sorted}
use Rattle.iocm_model.specs.Change.Edit.{Action, Edit, state_after}
use Rattle.iocm_model.specs.Change.Inverse.{inverse_of}
use Rattle.iocm_model.specs.Operation.State.{views_in}
use Rattle.iocm_numbers.specs.NumberChanges as numbers
use Rattle.iocm_seats.specs.Changes as views
use Rattle.iocm_tree.specs.Carried.{Carried, AreInOrder}
use Rattle.iocm_plant.specs.Operating.{Operating}
use Rattle.iocm_plant.specs.TakingBack.{CanUnapply}
use Rattle.iocm_plant.specs.declared.following.Followed.{Followed}
use Rattle.iocm_plant.specs.declared.touched.Applied.{Applied}

-- an edit was performed on a machine: the state is the one after it. The inverse edit that is given
-- takes it back, without memory; the number cells that changed are told, and the subchannels that
-- were altered
pub record Performs (e : Edit) (old : Operating) (a : Applied) (new : Operating) : Type 0 where
  pub state : new.state ≡ state_after e old.state
  pub inverse : a.inverse.edit ≡ inverse_of e old.state
  pub back : CanUnapply a.inverse new
  pub numbers : a.touched.numbers.items
      ≡ numbers.changes_between old.state.numbers (state_after e old.state).numbers
  pub subchannels : a.touched.subchannels.items
      ≡ views.changes_between (views_in old.state) (views_in (state_after e old.state))

-- the live records that altered subchannels had stand in order, and so do the rows for those that
-- are left
pub record HasMadeOrder (f : Followed) : Type 0 where
  pub kept_in_order : AreInOrder f.told.kept.items
  pub meets_in_order : AreInOrder f.told.meets.items

-- the edit of this action, with the numbers that were freed and these live records, and with room
-- for what was given
abbrev pub made_of : Action → Followed → Carried
made_of action f = record {
  edit = record { action = action; places = f.renumbered.freed.items; lives = from_sorted f.told.kept.items };
  frees = f.renumbered.given.items;
  meets = keys_of f.told.meets.items;
}
