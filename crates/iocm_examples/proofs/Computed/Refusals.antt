-- Edits that are refused, computed on states as lists.
use Rattle.std.proofs.Common.{◌≡◌, [], ◌∷◌, refl}
use Rattle.iocm_types.specs.declared.key.Key.TheVariants as key
use Rattle.iocm_types.specs.declared.order.Order.TheVariants as orders
use Rattle.iocm_model.specs.Operation.Step.{order, device_end}
use Rattle.iocm_examples.specs.Edits.{started_at, base_started, base_opened}
use Rattle.iocm_examples.specs.Refusals.{base_ended, base_tested, Keys, ABusySubchannel, PendingStatus}
use Rattle.iocm_examples.specs.BaseDeck.{subchannel, device_on_1000, device_key}
use Rattle.iocm_examples.proofs.OnLists.{on_lists}
use Rattle.iocm_examples.proofs.Listed.States.{ListedState, listing, after_step_is, after_step_listed}
use Rattle.iocm_examples.proofs.Listed.Trees.{one, in_choose, meaning_is, meaning_refused, parts_listed, taken_back}
use Rattle.iocm_examples.proofs.Computed.Edits.{base_listing, base_is, plain_add, plain_delete, plain_modify}
use Rattle.iocm_examples.proofs.Computed.Edits.{started_listed, started_is, started_listing, base_started_is, the_1001}

-- keys that are there, and that are missing
pub keys_there_and_missing : Keys
unfolding on_lists base_listing
keys_there_and_missing = record {
  there = meaning_refused (one (plain_add (device_on_1000 0x1000 0x04))) _ base_opened base_listing base_is refl;
  missing = meaning_refused (one (plain_delete (key.Unit 0x2000))) _ base_opened base_listing base_is refl;
  missing_device = meaning_refused (one (plain_modify (device_on_1000 0x2000 0x04))) _ base_opened base_listing base_is
      refl;
}

-- a subchannel that is busy
pub a_busy_subchannel : ABusySubchannel
unfolding on_lists base_listing started_listing
a_busy_subchannel = record {
  refused = meaning_refused (one (plain_delete (device_key 0x1000))) _ base_started started_listing base_started_is
      refl;
  chosen = meaning_is (in_choose
      (parts_listed (plain_delete (device_key 0x1000) ∷ plain_delete (device_key 0x1003) ∷ [])))
      (plain_delete (device_key 0x1003) ∷ []) base_started started_listing base_started_is refl;
}

-- the lists once device 1001 has ended LPA's start
unfoldable ended_listing : ListedState
ended_listing = after_step_listed (subchannel 1 1) device_end (started_listed (subchannel 1 1) base_listing)

-- these are those of the state
base_ended_is : listing base_ended ≡ ended_listing
unfolding base_ended ended_listing
base_ended_is = after_step_is (subchannel 1 1) device_end (started_at (subchannel 1 1) base_opened)
    (started_listed (subchannel 1 1) base_listing)
    (started_is (subchannel 1 1) base_opened base_listing base_is)

-- the lists once the status is taken
unfoldable tested_listing : ListedState
tested_listing = after_step_listed (subchannel 1 1) (order orders.Test) ended_listing

-- these are those of the state
base_tested_is : listing base_tested ≡ tested_listing
unfolding base_tested tested_listing
base_tested_is = after_step_is (subchannel 1 1) (order orders.Test) base_ended ended_listing base_ended_is

-- status that is pending
pub pending_status : PendingStatus
unfolding on_lists base_listing ended_listing tested_listing
pending_status = record {
  refused = meaning_refused (one the_1001) _ base_ended ended_listing base_ended_is refl;
  tested = meaning_is (one the_1001) (the_1001 ∷ []) base_tested tested_listing base_tested_is refl;
  taken_back = taken_back (the_1001 ∷ []) base_tested tested_listing base_tested_is refl;
}
