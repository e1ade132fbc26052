-- What is listed, with the users of the paths that are left, is the whole.
use Rattle.std.proofs.Common.{◌≡◌, ◌++◌}
use Rattle.std.specs.List.{flat_map}
use Rattle.iocm_affected.specs.Listing.{users_on_path, users_of_name}
use Rattle.iocm_affected.proofs.users.all_users_of_name.Given as goal

abbrev pub invariant-loop-user : goal.invariant-loop-user
invariant-loop-user g l =
    l.users.items ++ flat_map (users_on_path l.index l.fn.css) l.user-iterator
    ≡ users_of_name l.index l.fn.css l.fn.name
