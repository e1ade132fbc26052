use Rattle.std.proofs.Common.{◌≡◌, map, take}
use Rattle.iocm_types.specs.Print.{hex4}
use Rattle.iocm_deck_writer.proofs.device.units_text.Given as goal

abbrev pub invariant-loop-unit : goal.invariant-loop-unit
invariant-loop-unit l = l.items.items ≡ map hex4 (take l.unit-index l.units)
