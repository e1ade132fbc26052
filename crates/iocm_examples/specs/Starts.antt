-- Worked runs in which starts are pending and are taken back, as they are stated by hand.
use Rattle.std.specs.Prelude.{true, false, [], ◌∷◌}
use Rattle.iocm_types.specs.declared.answer.Answer.TheVariants.{Held, Changed, Staged, Begun, Ended}
use Rattle.iocm_types.specs.declared.order.Order.TheVariants.{Start, Cancel, Test, Store}
use Rattle.iocm_types.specs.declared.refused.At.TheVariants.{Subchannel}
use Rattle.iocm_types.specs.declared.rule.Rule.TheVariants.{B1}
use Rattle.iocm_types.specs.declared.sub_id.SubId.{SubId}
use Rattle.iocm_model.specs.Change.Tree.{leaf}
use Rattle.iocm_model.specs.Operation.Step.{device_begin}
use Rattle.iocm_history.specs.Entry.{Call, at, begin}
use Rattle.iocm_examples.specs.BaseDeck.{device_key, subchannel}
use Rattle.iocm_examples.specs.Edits.{deleted}
use Rattle.iocm_examples.specs.Histories.{Script, change_by, orders, ends, enables}
use Rattle.iocm_examples.specs.Histories.{code, status, refused_at_root, stored}

-- the device of a subchannel begins
abbrev pub becomes_active : SubId → Call
becomes_active x = at x device_begin

-- CANCEL takes a start back while it is pending, and neither before nor after; a device begins once
abbrev pub taken_back : Script
taken_back =
    (orders (subchannel 1 0) Cancel, code 3)
    ∷ (enables (subchannel 1 0) 0x80 7, code 0)
    ∷ (orders (subchannel 1 0) Cancel, code 2)
    ∷ (becomes_active (subchannel 1 0), Begun false)
    ∷ (orders (subchannel 1 0) Start, code 0)
    ∷ (orders (subchannel 1 0) Cancel, code 0)
    ∷ (orders (subchannel 1 0) Store, stored 0x1000 0xC0 0x80 true 7)
    ∷ (orders (subchannel 1 0) Start, code 0)
    ∷ (becomes_active (subchannel 1 0), Begun true)
    ∷ (becomes_active (subchannel 1 0), Begun false)
    ∷ (orders (subchannel 1 0) Cancel, code 2)
    ∷ (ends (subchannel 1 0), Ended true)
    ∷ (orders (subchannel 1 0) Cancel, code 1)
    ∷ (orders (subchannel 1 0) Test, status 9)
    ∷ []

-- a pending start ends as an active one does; at a subchannel that isn't there nothing begins
abbrev pub ended_before_it_began : Script
ended_before_it_began =
    (enables (subchannel 1 0) 0x80 0, code 0)
    ∷ (orders (subchannel 1 0) Start, code 0)
    ∷ (ends (subchannel 1 0), Ended true)
    ∷ (becomes_active (subchannel 1 0), Begun false)
    ∷ (orders (subchannel 1 0) Test, status 9)
    ∷ (becomes_active (subchannel 1 4), Begun false)
    ∷ (orders (subchannel 1 4) Cancel, code 3)
    ∷ []

-- a pending start is in the way of a change, until it is taken back
abbrev pub in_the_way : Script
in_the_way =
    (enables (subchannel 1 0) 0x80 0, code 0)
    ∷ (orders (subchannel 1 0) Start, code 0)
    ∷ (change_by (deleted (device_key 0x1000)), refused_at_root B1 (Subchannel (subchannel 1 0)))
    ∷ (orders (subchannel 1 0) Cancel, code 0)
    ∷ (change_by (deleted (device_key 0x1000)), Changed 1)
    ∷ []

-- and of a Begin; then CANCEL and the device begin are held, as all steps are
abbrev pub held_when_staged : Script
held_when_staged =
    (enables (subchannel 1 3) 0x80 0, code 0)
    ∷ (orders (subchannel 1 3) Start, code 0)
    ∷ (begin (leaf (deleted (device_key 0x1003))), refused_at_root B1 (Subchannel (subchannel 1 3)))
    ∷ (orders (subchannel 1 3) Cancel, code 0)
    ∷ (begin (leaf (deleted (device_key 0x1003))), Staged 1)
    ∷ (orders (subchannel 1 3) Cancel, Held)
    ∷ (becomes_active (subchannel 1 3), Held)
    ∷ []
