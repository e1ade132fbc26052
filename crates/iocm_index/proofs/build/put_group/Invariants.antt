-- The namings so far that are of the group.
use Rattle.std.proofs.Common.{◌≡◌, ◌++◌, filter, take}
use Rattle.iocm_index.specs.Grouped.{is_in_group}
use Rattle.iocm_index.proofs.build.put_group.Given as goal

abbrev pub invariant-loop-naming : goal.invariant-loop-naming
invariant-loop-naming g l =
    l.listed.items ≡ l.initial.listed.items ++ filter (is_in_group l.of_records) (take l.naming-index l.namings)
