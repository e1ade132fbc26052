-- What is put, with the items that are left, is the list.
use Rattle.std.proofs.Common.{◌≡◌, ◌++◌, drop, false}
use Rattle.serde_json.specs.Written.{items_text}
use Rattle.iocm_record_lines.specs.Lists.{items_of}
use Rattle.iocm_list_lines.specs.Units.{devices_value}
use Rattle.iocm_list_lines.proofs.units.put_devices.Given as goal

abbrev pub invariant-loop-range : goal.invariant-loop-range
invariant-loop-range l = l.text.items ++ items_text l.later (items_of devices_value (drop l.range-index l.ranges))
    ≡ l.initial.text.items ++ items_text false (items_of devices_value l.ranges)
