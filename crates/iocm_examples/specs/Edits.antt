-- Edits of the example deck as it is opened, some states of it, and what examples say of a change.
use Rattle.std.specs.Prelude.{◌≡◌, ℕ, true, List, [], ◌∷◌, Some, Ok, Err}
use Rattle.std.specs.FinMap.{empty}
use Rattle.iocm_types.specs.declared.key.Key.{Key}
use Rattle.iocm_types.specs.declared.live.Phase.TheVariants.{Idle}
use Rattle.iocm_types.specs.declared.live.Live.{Live}
use Rattle.iocm_types.specs.declared.refused.At.{At}
use Rattle.iocm_types.specs.declared.rule.Rule.{Rule}
use Rattle.iocm_types.specs.declared.sub_id.SubId.{SubId}
use Rattle.iocm_types.specs.declared.order.Order.TheVariants as orders
use Rattle.iocm_model.specs.Machine.Record.{Rec}
use Rattle.iocm_model.specs.Machine.Configuration.{configuration_of}
use Rattle.iocm_model.specs.Operation.State.{State, opening_state}
use Rattle.iocm_model.specs.Change.Edit.{Action, add, delete, modify, Edit}
use Rattle.iocm_model.specs.Change.Runs.{state_after_all}
use Rattle.iocm_model.specs.Change.Tree.{ChangeTree}
use Rattle.iocm_model.specs.Change.InverseTree.{inverse_tree}
use Rattle.iocm_model.specs.Change.Meaning.{state_reached, meaning}
use Rattle.iocm_model.specs.Operation.Step.{order, after_step}
use Rattle.iocm_examples.specs.BaseDeck.{lpb, base, online_record, device_on_1000, device_key, subchannel}

-- the example deck, opened
unfoldable pub base_opened : State
base_opened = opening_state (configuration_of base)

-- an edit that brings neither places nor live records along
abbrev pub plain : Action → Edit
plain a = record { action = a; places = []; lives = empty }

abbrev pub added : Rec → Edit
added r = plain (add r)

abbrev pub deleted : Key → Edit
deleted key = plain (delete key)

abbrev pub modified : Rec → Edit
modified r = plain (modify r)

-- a tree is accepted in a state: it performs these edits, and gives the state after them
abbrev pub Performs : ChangeTree → List Edit → State → Type 0
Performs p es s = meaning p s ≡ Ok (record { state = state_after_all es s; edits = es })

-- a tree is refused in a state, by this rule at this node
abbrev pub IsRefused : ChangeTree → Rule → ℕ → At → State → Type 0
IsRefused p rule node place s = meaning p s ≡ Err (record { rule = rule; node = Some node; at = place })

-- edits that were performed from a state on are taken back by their inverse tree: it leads back to
-- that state
abbrev pub IsTakenBack : List Edit → State → Type 0
IsTakenBack es s = state_reached (meaning (inverse_tree es s) (state_after_all es s)) ≡ Some s

-- a device of a smaller number than all others is added
abbrev pub add_0fff : Edit
add_0fff = added (device_on_1000 0x0FFF 0x0F)

-- one device is deleted, and then another added
abbrev pub one_for_another : List Edit
one_for_another = deleted (device_key 0x1001) ∷ added (device_on_1000 0x2000 0x04) ∷ []

-- device 1000 once more, with another unit address
abbrev pub add_1000 : Edit
add_1000 = added (device_on_1000 0x1000 0x04)

-- device 1001 is deleted
abbrev pub delete_1001 : Edit
delete_1001 = deleted (device_key 0x1001)

-- path 51 comes online to LPB
abbrev pub online_51 : Edit
online_51 = added (online_record 0x51 lpb)

-- an image enables a subchannel with this logical-path mask, and starts it
abbrev pub enabled_at : SubId → ℕ → State → State
enabled_at x lpm s = after_step x (order (orders.Modify (record { enabled = true; lpm = lpm; parm = 0 }))) s

abbrev pub started_at : SubId → State → State
started_at x s = after_step x (order orders.Start) (enabled_at x 0x80 s)

-- LPA's subchannel of 1000 is started
unfoldable pub base_started : State
base_started = started_at (subchannel 1 0) base_opened

-- an idle live record that is enabled, with this logical-path mask
abbrev pub enabled_with : ℕ → Live
enabled_with lpm = record { enabled = true; lpm = lpm; parm = 0; phase = Idle }
