use Rattle.std.proofs.Common.{◌≡◌, ◌+◌, ◌++◌, ◌≤◌, drop, map}
use Rattle.iocm_record.specs.Meaning as fields
use Rattle.iocm_deck_writer.specs.Device.{iodevice_statement, runs_from}
use Rattle.iocm_deck_writer.proofs.device.put_runs.Given as goal

-- what was put, with the statements of the run so far and of the devices to come, is the whole
abbrev pub invariant-loop-device : goal.invariant-loop-device
invariant-loop-device g l = (l.count ≤ l.device-index + 1)
    × (l.statements.items ++ map iodevice_statement
    (runs_from (record { first = fields.device_of l.run; count = l.count })
    (map (λ d. fields.device_of d.now) (drop l.device-index l.devices)))
    ≡ l.fn.statements.items ++ map iodevice_statement
    (runs_from (record { first = fields.device_of l.fn.first; count = 1 })
    (map (λ d. fields.device_of d.now) l.devices)))
