-- What is listed, with the users that are left, is the whole.
use Rattle.std.proofs.Common.{◌≡◌, ◌++◌}
use Rattle.iocm_types.specs.declared.named.Named.TheVariants.{Record}
use Rattle.iocm_affected.specs.Listing.{users_of}
use Rattle.iocm_affected.proofs.users.list_of_path.Given as goal

abbrev pub invariant-loop-user : goal.invariant-loop-user
invariant-loop-user g l = l.users.items ++ l.user-iterator ≡ l.initial.users.items ++ users_of l.index (Record l.path)
