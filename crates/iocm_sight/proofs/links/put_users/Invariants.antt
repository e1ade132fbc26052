-- The keys so far, with the users that are left, are those before and all users.
use Rattle.std.proofs.Common.{◌≡◌, ◌++◌}
use Rattle.iocm_types.specs.Naming.{naming_cmp}
use Rattle.iocm_table.specs.Slots.{rows}
use Rattle.iocm_index.specs.Namings.{users_in}
use Rattle.iocm_sight.proofs.links.put_users.Given as goal

abbrev pub invariant-loop-user : goal.invariant-loop-user
invariant-loop-user l =
    l.keys.items ++ l.user-iterator ≡ l.initial.keys.items ++ users_in l.fn.named (rows naming_cmp l.index)
