-- What is listed, with the places on the units that are left, is the whole.
use Rattle.std.proofs.Common.{◌≡◌, ◌++◌, [], ◌∷◌}
use Rattle.std.specs.List.{flat_map}
use Rattle.iocm_affected.specs.Listing.{places_on_unit, places_of_path}
use Rattle.iocm_affected.proofs.places.list_of_path.Given as goal

abbrev pub invariant-loop-user : goal.invariant-loop-user
invariant-loop-user g l = l.listed.items ++ flat_map (places_on_unit l.index (l.fn.css ∷ [])) l.user-iterator
    ≡ l.initial.listed.items ++ places_of_path l.index l.fn.css l.path
