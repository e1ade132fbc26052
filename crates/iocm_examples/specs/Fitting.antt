-- Changes that don't fit a state, as it is stated by hand: for one cause alone each.
use Rattle.std.specs.Prelude.{◌≡◌, true, false, [], ◌∷◌}
use Rattle.iocm_types.specs.declared.key.Key.TheVariants as key
use Rattle.iocm_model.specs.Machine.Record.{Rec}
use Rattle.iocm_model.specs.Operation.State.{State}
use Rattle.iocm_model.specs.Change.Edit.{Edit, state_after}
use Rattle.iocm_history.specs.Change.{Change}
use Rattle.iocm_history.specs.Fits.{fits}
use Rattle.iocm_examples.specs.BaseDeck.{lpa, path_record}
use Rattle.iocm_examples.specs.Edits.{base_opened, added, deleted}
use Rattle.iocm_examples.specs.WithoutAChange.{turn}

-- a change of one edit that was made in a state
abbrev pub made_in : Edit → State → Change
made_in e s = record { edits = e ∷ []; from = s }

-- the paths of a unit changed places
abbrev pub turned : Change
turned = made_in turn base_opened

-- it fits the state that it left. In the state before it the inverse would leave each view as it
-- was before the change too, but would not come from what the change left: so it doesn't fit there
pub record FromAnotherValue : Type 0 where
  pub there : fits turned (state_after turn base_opened) ≡ true
  pub before : fits turned base_opened ≡ false

-- a path comes in that no unit uses: nothing is seen of it, and it has no number
abbrev pub path_52 : Rec
path_52 = path_record 0x52 (lpa ∷ []) []

abbrev pub add_52 : Edit
add_52 = added path_52

abbrev pub delete_52 : Edit
delete_52 = deleted (key.Path 0 0x52)

-- where it isn't there it can't be deleted (E2)
pub record NotThereToDelete : Type 0 where
  pub there : fits (made_in add_52 base_opened) (state_after add_52 base_opened) ≡ true
  pub not_there : fits (made_in add_52 base_opened) base_opened ≡ false

-- once it went: where it is there, it can't be added (E1)
pub record ThereToAdd : Type 0 where
  pub not_there : fits (made_in delete_52 (state_after add_52 base_opened)) base_opened ≡ true
  pub there : fits (made_in delete_52 (state_after add_52 base_opened)) (state_after add_52 base_opened) ≡ false
