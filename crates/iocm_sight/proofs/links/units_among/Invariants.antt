-- The control units so far, with those of the users that are left, are all.
use Rattle.std.proofs.Common.{◌≡◌, ◌++◌}
use Rattle.std.specs.List.{filter_map}
use Rattle.iocm_types.specs.Naming.{naming_cmp}
use Rattle.iocm_table.specs.Slots.{rows}
use Rattle.iocm_index.specs.Namings.{users_in}
use Rattle.iocm_sight.specs.Connected.{unit_number}
use Rattle.iocm_sight.proofs.links.units_among.Given as goal

abbrev pub invariant-loop-user : goal.invariant-loop-user
invariant-loop-user l = l.units.items ++ filter_map unit_number l.user-iterator
    ≡ filter_map unit_number (users_in l.fn.named (rows naming_cmp l.index))
