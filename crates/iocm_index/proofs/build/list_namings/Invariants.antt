-- Behind those that were listed stand the namings so far.
use Rattle.std.proofs.Common.{◌≡◌, ◌++◌, take}
use Rattle.iocm_index.specs.Namings.{namings_of}
use Rattle.iocm_index.proofs.build.list_namings.Given as goal

abbrev pub invariant-loop-place : goal.invariant-loop-place
invariant-loop-place g l = l.listed.items ≡ l.fn.listed.items ++ take l.place (namings_of l.entry)
