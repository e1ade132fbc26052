use Rattle.std.proofs.Common.{◌≡◌, map, take}
use Rattle.iocm_types.specs.Print.{hex4}
use Rattle.iocm_words.proofs.words.units_word.Given as goal

abbrev pub invariant-loop-unit : goal.invariant-loop-unit
invariant-loop-unit l = l.words.items ≡ map hex4 (take l.unit-index l.units)
