-- The runs so far, with the one that is open and those of the devices to come, are all.
use Rattle.std.proofs.Common.{◌≡◌, ◌++◌, drop, map}
use Rattle.iocm_record.specs.Meaning.{device_of}
use Rattle.iocm_deck_writer.specs.Device.{runs_from}
use Rattle.iocm_sight.specs.Fits.{AreDevices}
use Rattle.iocm_sight.proofs.runs.put_runs.Given as goal

abbrev pub invariant-loop-device : goal.invariant-loop-device
invariant-loop-device l = record {
  fits : AreDevices l.run.number l.run.unit_address l.count;
  left : l.runs.items ++ runs_from (record { first = device_of l.run; count = l.count })
      (map (λ d. device_of d.now) (drop l.device-index l.devices))
      ≡ l.initial.runs.items ++ runs_from (record { first = device_of l.fn.first; count = 1 })
      (map (λ d. device_of d.now) l.devices);
}
