-- The runs so far, with the one that is open and those of the devices to come, are all.
use Rattle.std.proofs.Common.{◌≡◌, ◌≤◌, ◌+◌, ◌++◌, drop}
use Rattle.iocm_plan.specs.Runs.{alone, runs_from}
use Rattle.iocm_plan.proofs.runs.put_runs.Given as goal

abbrev pub invariant-loop-device : goal.invariant-loop-device
invariant-loop-device l = record {
  few : l.count ≤ l.device-index + 1;
  left : l.runs.items ++ runs_from l.old.records l.new.records (record { first = l.first; count = l.count })
      (drop l.device-index l.devices)
      ≡ l.initial.runs.items ++ runs_from l.old.records l.new.records (alone l.fn.first) l.devices;
}
