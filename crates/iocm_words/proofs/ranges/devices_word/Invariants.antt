use Rattle.std.proofs.Common.{◌≡◌, map, take}
use Rattle.iocm_words.specs.Ranges.{devices_word}
use Rattle.iocm_words.proofs.ranges.devices_word.Given as goal

abbrev pub invariant-loop-devices : goal.invariant-loop-devices
invariant-loop-devices l = l.words.items ≡ map devices_word (take l.devices-index l.ranges)
