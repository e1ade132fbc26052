-- The example deck as it is opened, its states and the edits of it, as lists.
use Rattle.std.proofs.Common.{◌≡◌, ℕ, true, List, [], ◌∷◌, refl, ap, ◌∙◌}
use Rattle.iocm_types.specs.declared.sub_id.SubId.{SubId}
use Rattle.iocm_types.specs.Key.{key_cmp}
use Rattle.iocm_types.specs.declared.key.Key.{Key}
use Rattle.iocm_types.specs.declared.order.Order.TheVariants as orders
use Rattle.iocm_model.specs.Machine.Configuration.{with_keys, configuration_of}
use Rattle.iocm_model.specs.Operation.State.{State}
use Rattle.iocm_model.specs.Change.Edit.{Action, add, delete, modify}
use Rattle.iocm_model.specs.Operation.Orders.{fresh}
use Rattle.iocm_model.specs.Machine.Record.{Rec}
use Rattle.iocm_model.specs.Operation.Step.{Step, order}
use Rattle.iocm_examples.specs.BaseDeck.{base, lpb, online_record, place_of, subchannel, device_on_1000, device_key}
use Rattle.iocm_examples.specs.Edits.{started_at, enabled_at, base_started, base_opened}
use Rattle.iocm_examples.proofs.OnLists.{states_on_lists}
use Rattle.iocm_examples.proofs.Listed.Maps.{put_all}
use Rattle.iocm_examples.proofs.Listed.Views.{entries-configuration_of}
use Rattle.iocm_examples.proofs.Listed.States.{ListedState, listing, opening_state_listed, opening_state_seen}
use Rattle.iocm_examples.proofs.Listed.States.{after_step_is, after_step_listed, ListedEdit}

-- the example deck, opened, as lists
unfoldable pub base_listing : ListedState
base_listing = record {
  records = with_keys base;
  numbers = place_of 0x1000 0 ∷ place_of 0x1001 1 ∷ place_of 0x1002 2 ∷ place_of 0x1003 3 ∷ [];
  lives = (subchannel 1 0, fresh 0xC0) ∷ (subchannel 1 1, fresh 0xC0) ∷ (subchannel 1 2, fresh 0xC0)
      ∷ (subchannel 1 3, fresh 0xC0)
      ∷ (subchannel 2 0, fresh 0xC0) ∷ (subchannel 2 1, fresh 0xC0) ∷ (subchannel 2 2, fresh 0xC0)
      ∷ (subchannel 2 3, fresh 0xC0) ∷ [];
}

-- these are the lists at opening of the example deck
base_computed : opening_state_listed (put_all key_cmp (with_keys base)) ≡ base_listing
unfolding states_on_lists base_listing
base_computed = refl

-- and those of its state at opening
pub base_is : listing base_opened ≡ base_listing
unfolding base_opened
base_is = opening_state_seen (configuration_of base) ∙ ap opening_state_listed (entries-configuration_of base)
    ∙ base_computed

-- an edit that brings nothing along
abbrev pub plainly : Action → ListedEdit
plainly a = record { action = a; places = []; lives = [] }

-- an add, a delete and a modify that bring nothing along
abbrev pub plain_add : Rec → ListedEdit
plain_add r = plainly (add r)

abbrev pub plain_delete : Key → ListedEdit
plain_delete key = plainly (delete key)

abbrev pub plain_modify : Rec → ListedEdit
plain_modify r = plainly (modify r)

-- the edits of the examples
abbrev pub the_0fff : ListedEdit
the_0fff = plain_add (device_on_1000 0x0FFF 0x0F)

abbrev pub add_0fff_listed : List ListedEdit
add_0fff_listed = the_0fff ∷ []

-- a device that leaves, and one that comes in
abbrev pub one_for_another_listed : List ListedEdit
one_for_another_listed = plain_delete (device_key 0x1001) ∷ plain_add (device_on_1000 0x2000 0x04) ∷ []

-- device 1001 is deleted
abbrev pub the_1001 : ListedEdit
the_1001 = plain_delete (device_key 0x1001)

-- path 51 comes online to LPB
abbrev pub the_online : ListedEdit
the_online = plain_add (online_record 0x51 lpb)

-- a subchannel is enabled, and started, on lists
abbrev pub enable_step : ℕ → Step
enable_step lpm = order (orders.Modify (record { enabled = true; lpm = lpm; parm = 0 }))

-- a subchannel is enabled and started, on lists
abbrev pub started_listed : SubId → ListedState → ListedState
started_listed x y = after_step_listed x (order orders.Start) (after_step_listed x (enable_step 0x80) y)

-- a subchannel is started in a state that is listed
pub started_is : (x : SubId) (s : State) (y : ListedState) → listing s ≡ y
    → listing (started_at x s) ≡ started_listed x y
started_is x s y is =
    after_step_is x (order orders.Start) (enabled_at x 0x80 s) (after_step_listed x (enable_step 0x80) y)
    (after_step_is x (enable_step 0x80) s y is)

-- the lists once LPA has started its subchannel of 1000
unfoldable pub started_listing : ListedState
started_listing = started_listed (subchannel 1 0) base_listing

-- these are those of the state
pub base_started_is : listing base_started ≡ started_listing
unfolding base_started started_listing
base_started_is = started_is (subchannel 1 0) base_opened base_listing base_is
