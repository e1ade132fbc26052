-- What was put, with the range so far and the devices to come, is the whole.
use Rattle.std.proofs.Common.{◌≡◌, ◌++◌, drop}
use Rattle.iocm_list.specs.Joined.{joined_from}
use Rattle.iocm_list.proofs.joined.put_joined.Given as goal

abbrev pub invariant-loop-device : goal.invariant-loop-device
invariant-loop-device l = l.ranges.items ++ joined_from l.range (drop l.device-index l.devices)
    ≡ l.initial.ranges.items ++ joined_from l.fn.first l.devices
