-- What is listed, with the places of the users that are left, is the whole.
use Rattle.std.proofs.Common.{◌≡◌, ◌++◌}
use Rattle.std.specs.List.{flat_map}
use Rattle.iocm_affected.specs.Listing.{places_of, places_of_unit}
use Rattle.iocm_affected.proofs.places.list_of_unit.Given as goal

abbrev pub invariant-loop-user : goal.invariant-loop-user
invariant-loop-user g l =
    l.listed.items ++ flat_map (places_of l.within) l.user-iterator ≡ l.initial.listed.items
    ++ places_of_unit l.index l.within l.unit
