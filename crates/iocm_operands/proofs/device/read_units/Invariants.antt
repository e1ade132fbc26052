use Rattle.std.proofs.Common.{◌≡◌, drop, map}
use Rattle.iocm_values.specs.Reading.{every, after_front}
use Rattle.iocm_values.specs.Value.{seen}
use Rattle.iocm_operands.specs.Device.{unit_item}
use Rattle.iocm_operands.proofs.device.read_units.Given as goal

abbrev pub invariant-loop-item : goal.invariant-loop-item
invariant-loop-item l = after_front l.units.items (every unit_item (map seen (drop l.item-index l.items)))
    ≡ every unit_item (map seen l.items)
