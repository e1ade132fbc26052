-- Edits that are refused, by their keys and by subchannels that are busy or have status pending, as
-- it is stated by hand.
use Rattle.std.specs.Prelude.{[], ◌∷◌}
use Rattle.iocm_types.specs.declared.rule.Rule.TheVariants.{B1, E1, E2}
use Rattle.iocm_types.specs.declared.key.Key.TheVariants as key
use Rattle.iocm_types.specs.declared.order.Order.TheVariants as orders
use Rattle.iocm_types.specs.declared.refused.At.TheVariants as at
use Rattle.iocm_model.specs.Operation.State.{State}
use Rattle.iocm_model.specs.Change.Tree.{leaf, choose}
use Rattle.iocm_model.specs.Change.InverseTree.{parts_of}
use Rattle.iocm_model.specs.Operation.Step.{order, device_end, after_step}
use Rattle.iocm_examples.specs.Edits.{base_opened, deleted, modified, Performs, IsRefused}
use Rattle.iocm_examples.specs.Edits.{IsTakenBack, add_1000, started_at, base_started}
use Rattle.iocm_examples.specs.BaseDeck.{device_on_1000, device_key, subchannel}

-- a key that is there, on add; one that isn't, on delete and on modify
pub record Keys : Type 0 where
  pub there : IsRefused (leaf add_1000) E1 0 (at.Key (device_key 0x1000)) base_opened
  pub missing : IsRefused (leaf (deleted (key.Unit 0x2000))) E2 0 (at.Key (key.Unit 0x2000)) base_opened
  pub missing_device : IsRefused (leaf (modified (device_on_1000 0x2000 0x04))) E2 0
      (at.Key (device_key 0x2000)) base_opened

-- a subchannel that is busy stands in the way of an edit that alters it, and of no other
pub record ABusySubchannel : Type 0 where
  pub refused : IsRefused (leaf (deleted (device_key 0x1000))) B1 0 (at.Subchannel (subchannel 1 0)) base_started
  pub chosen : Performs (choose (parts_of (deleted (device_key 0x1000) ∷ deleted (device_key 0x1003) ∷ [])))
      (deleted (device_key 0x1003) ∷ [])
      base_started

-- LPA's subchannel of 1001 is started, and the device ends; then the status is taken by TEST
unfoldable pub base_ended : State
base_ended = after_step (subchannel 1 1) device_end (started_at (subchannel 1 1) base_opened)

unfoldable pub base_tested : State
base_tested = after_step (subchannel 1 1) (order orders.Test) base_ended

-- so does one with status pending, until the status is taken
pub record PendingStatus : Type 0 where
  pub refused : IsRefused (leaf (deleted (device_key 0x1001))) B1 0 (at.Subchannel (subchannel 1 1)) base_ended
  pub tested : Performs (leaf (deleted (device_key 0x1001))) (deleted (device_key 0x1001) ∷ []) base_tested
  pub taken_back : IsTakenBack (deleted (device_key 0x1001) ∷ []) base_tested
