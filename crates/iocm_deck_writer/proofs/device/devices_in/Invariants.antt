use Rattle.std.proofs.Common.{◌≡◌, map, take}
use Rattle.std.specs.List.{flat_map}
use Rattle.iocm_record.specs.Meaning as fields
use Rattle.iocm_deck_writer.specs.Device.{devices_of}
use Rattle.iocm_deck_writer.proofs.device.devices_in.Given as goal

abbrev pub invariant-loop-entry : goal.invariant-loop-entry
invariant-loop-entry g l =
    map (λ d. fields.device_of d.now) l.devices.items
    ≡ flat_map devices_of (map (λ k. k.now) (take l.entry-index l.records))
