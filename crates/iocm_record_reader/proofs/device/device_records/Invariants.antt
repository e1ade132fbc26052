use Rattle.std.proofs.Common.{◌≡◌}
use Rattle.iocm_record_reader.specs.DeviceRecords.{device_records}
use Rattle.iocm_record.specs.Meaning.{device_of}
use Rattle.iocm_record_reader.proofs.device.device_records.Given as goal

abbrev pub invariant-loop-place : goal.invariant-loop-place
invariant-loop-place l = l.records.items ≡ device_records (device_of l.first) l.address l.place
