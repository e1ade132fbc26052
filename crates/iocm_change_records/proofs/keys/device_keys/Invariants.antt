use Rattle.std.proofs.Common.{◌≡◌}
use Rattle.iocm_change_records.specs.Keys.{device_keys}
use Rattle.iocm_change_records.proofs.keys.device_keys.Given as goal

abbrev pub invariant-loop-place : goal.invariant-loop-place
invariant-loop-place l = l.keys.items ≡ device_keys l.set (record { first = l.devices.first; count = l.place })
