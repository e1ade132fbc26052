-- What is put, with the items that are left, is the list.
use Rattle.std.proofs.Common.{◌≡◌, ◌++◌, drop, false}
use Rattle.serde_json.specs.Written.{items_text}
use Rattle.iocm_record_lines.specs.Records.{number_value}
use Rattle.iocm_record_lines.specs.Lists.{items_of}
use Rattle.iocm_record_lines.proofs.device.put_units.Given as goal

abbrev pub invariant-loop-unit : goal.invariant-loop-unit
invariant-loop-unit l = l.text.items ++ items_text l.later (items_of number_value (drop l.unit-index l.units))
    ≡ l.initial.text.items ++ items_text false (items_of number_value l.units)
