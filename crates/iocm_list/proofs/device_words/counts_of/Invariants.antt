-- The images so far.
use Rattle.std.proofs.Common.{◌≡◌, map, take}
use Rattle.iocm_list.specs.DeviceCells.{counts_of}
use Rattle.iocm_list.proofs.device_words.counts_of.Given as goal

abbrev pub invariant-loop-by : goal.invariant-loop-by
invariant-loop-by l = l.images.items ≡ map counts_of (take l.by-index l.seen)
