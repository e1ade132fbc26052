-- The rows so far are those of the namings before.
use Rattle.std.proofs.Common.{◌≡◌, map, take}
use Rattle.iocm_index.specs.Namings.{as_row}
use Rattle.iocm_index.proofs.build.list_rows.Given as goal

abbrev pub invariant-loop-naming : goal.invariant-loop-naming
invariant-loop-naming g l = l.listed.items ≡ map as_row (take l.naming-index l.namings)
