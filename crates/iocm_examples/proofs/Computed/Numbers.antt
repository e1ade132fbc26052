-- Numbers at opening, computed once the maps are listed, and after edits, computed on states as
-- lists.
use Rattle.std.proofs.Common.{◌≡◌, ℕ, List, [], ◌∷◌, refl, ◌∙◌, ap}
use Rattle.std.specs.FinMap.{entries, get, get-from_entries}
use Rattle.iocm_types.specs.declared.key.Key.{Key}
use Rattle.iocm_types.specs.Key.{key_cmp}
use Rattle.iocm_types.specs.KeyOrder.{keys_total, keys_exact, places_total, places_exact}
use Rattle.iocm_types.specs.declared.place.Place.{Place}
use Rattle.iocm_model.specs.Machine.Configuration.{with_keys, configuration_of}
use Rattle.iocm_model.specs.Change.Edit.{add}
use Rattle.iocm_model.specs.Change.Runs.{state_after_all}
use Rattle.iocm_model.specs.Change.Effect.{Cells}
use Rattle.iocm_model.specs.Operation.Orders.{fresh}
use Rattle.iocm_examples.specs.BaseDeck.{base, place_of, subchannel, device_on_1000}
use Rattle.iocm_examples.specs.Views.{found_in}
use Rattle.iocm_examples.specs.Numbers.{BaseNumbers, second_subsystem, second_opened, unit_on_both, ASecondSubsystem}
use Rattle.iocm_examples.specs.Numbers.{ANumberComesAlong, ADeviceComesIn, ANumberIsUsedAgain}
use Rattle.iocm_examples.specs.Edits.{one_for_another, base_opened}
use Rattle.iocm_examples.proofs.Listed.Maps.{entries_in_order, put_all}
use Rattle.iocm_examples.proofs.OnLists.{states_on_lists, on_lists}
use Rattle.iocm_examples.proofs.Listed.Views.{entries-configuration_of}
use Rattle.iocm_examples.proofs.Listed.States.{ListedState, listing, opening_state_listed, opening_state_seen}
use Rattle.iocm_examples.proofs.Listed.States.{live_at_is, number_at_is, altered_listed, altered_seen, ListedEdit}
use Rattle.iocm_examples.proofs.Listed.Effects.{state_after_all_is, edits_cells_are}
use Rattle.iocm_examples.proofs.Listed.Trees.{one, in_row, meaning_is, meaning_refused, parts_listed, taken_back}
use Rattle.iocm_examples.proofs.Computed.Edits.{base_listing, base_is, plainly, the_0fff, add_0fff_listed}
use Rattle.iocm_examples.proofs.Computed.Edits.{one_for_another_listed}

pub base_entries : entries (configuration_of base) ≡ with_keys base
base_entries = entries_in_order key_cmp keys_total keys_exact (with_keys base) tt

pub base_lookup : (key : Key) → get (configuration_of base) key ≡ found_in base key
base_lookup key = get-from_entries keys_total (with_keys base) key

pub base_numbers : BaseNumbers
base_numbers = simp (base_entries, base_lookup) (entries_in_order _ places_total places_exact _ tt)

-- a device that comes in
pub a_device_comes_in : ADeviceComesIn
unfolding on_lists base_listing
a_device_comes_in = record {
  accepted = meaning_is (one the_0fff) add_0fff_listed base_opened base_listing base_is refl;
  numbers = ap (λ (y : ListedState). y.numbers) (state_after_all_is add_0fff_listed base_opened base_listing base_is);
  altered = ap (λ (w : Cells). w.subchannels) (edits_cells_are add_0fff_listed base_opened base_listing base_is);
  live = live_at_is _ _ (subchannel 2 4) (state_after_all_is add_0fff_listed base_opened base_listing base_is);
  taken_back = taken_back add_0fff_listed base_opened base_listing base_is refl;
}

-- a number that is used again
pub a_number_is_used_again : ANumberIsUsedAgain
unfolding on_lists base_listing
a_number_is_used_again = record {
  accepted = meaning_is (in_row (parts_listed one_for_another_listed)) one_for_another_listed base_opened base_listing
      base_is refl;
  numbers = ap (λ (y : ListedState). y.numbers)
      (state_after_all_is one_for_another_listed base_opened base_listing base_is);
  altered = altered_seen base_opened (state_after_all one_for_another base_opened)
      ∙ (λ i. altered_listed (base_is i)
      (state_after_all_is one_for_another_listed base_opened base_listing base_is i));
  taken_back = taken_back one_for_another_listed base_opened base_listing base_is refl;
}

-- a device with places that come along
abbrev with_places_listed : List (Place × ℕ) → ListedEdit
with_places_listed places = record { action = add (device_on_1000 0x2000 0x04); places = places; lives = [] }

abbrev with_number_listed : ℕ → ListedEdit
with_number_listed number = with_places_listed (place_of 0x2000 number ∷ [])

-- a number that comes along
pub a_number_comes_along : ANumberComesAlong
unfolding on_lists base_listing
a_number_comes_along = record {
  accepted = meaning_is (one (with_number_listed 7)) (with_number_listed 7 ∷ []) base_opened base_listing base_is refl;
  numbers = ap (λ (y : ListedState). y.numbers)
      (state_after_all_is (with_number_listed 7 ∷ []) base_opened base_listing base_is);
  held = meaning_refused (one (with_number_listed 3)) _ base_opened base_listing base_is refl;
  twice = meaning_refused (one (with_places_listed (place_of 0x2000 7 ∷ place_of 0x2000 7 ∷ []))) _ base_opened
      base_listing base_is refl;
  of_another = meaning_is (one (with_places_listed (place_of 0x1000 0 ∷ [])))
      (with_places_listed (place_of 0x1000 0 ∷ []) ∷ [])
      base_opened base_listing base_is refl;
  its_own = number_at_is _ _ (place_of 0x2000 0).0
      (state_after_all_is (with_places_listed (place_of 0x1000 0 ∷ []) ∷ []) base_opened base_listing base_is);
}

-- the example deck with a second channel subsystem, opened, as lists
unfoldable pub second_listing : ListedState
second_listing = record {
  records = put_all key_cmp (with_keys second_subsystem);
  numbers = place_of 0x1000 0 ∷ place_of 0x1001 1 ∷ place_of 0x1002 2 ∷ place_of 0x1003 3 ∷ [];
  lives = (subchannel 1 0, fresh 0xC0) ∷ (subchannel 1 1, fresh 0xC0) ∷ (subchannel 1 2, fresh 0xC0)
      ∷ (subchannel 1 3, fresh 0xC0)
      ∷ (subchannel 2 0, fresh 0xC0) ∷ (subchannel 2 1, fresh 0xC0) ∷ (subchannel 2 2, fresh 0xC0)
      ∷ (subchannel 2 3, fresh 0xC0) ∷ [];
}

-- these are the lists of its state at opening
second_computed : opening_state_listed (put_all key_cmp (with_keys second_subsystem)) ≡ second_listing
unfolding second_listing states_on_lists
second_computed = refl

-- and they are those of the state
pub second_is : listing second_opened ≡ second_listing
unfolding second_opened
second_is = opening_state_seen (configuration_of second_subsystem)
    ∙ ap opening_state_listed (entries-configuration_of second_subsystem) ∙ second_computed

-- the unit is on paths of both
abbrev the_unit_on_both : ListedEdit
the_unit_on_both = plainly unit_on_both.action

-- the numbers of both
pub a_second_subsystem : ASecondSubsystem
unfolding on_lists second_listing
a_second_subsystem = record {
  accepted = meaning_is (one the_unit_on_both) (the_unit_on_both ∷ []) second_opened second_listing second_is refl;
  numbers = ap (λ (y : ListedState). y.numbers)
      (state_after_all_is (the_unit_on_both ∷ []) second_opened second_listing second_is);
  altered = ap (λ (w : Cells). w.subchannels)
      (edits_cells_are (the_unit_on_both ∷ []) second_opened second_listing second_is);
  taken_back = taken_back (the_unit_on_both ∷ []) second_opened second_listing second_is refl;
}
