-- What is listed, with the places on the units that are left, is the whole.
use Rattle.std.proofs.Common.{◌≡◌, ◌++◌, [], ◌∷◌, drop}
use Rattle.std.specs.List.{flat_map}
use Rattle.iocm_affected.specs.Listing.{places_on_unit}
use Rattle.iocm_affected.proofs.places.list_on_units.Given as goal

abbrev pub invariant-loop-unit : goal.invariant-loop-unit
invariant-loop-unit g l =
    l.listed.items ++ flat_map (places_on_unit l.index (l.fn.css ∷ [])) (drop l.unit-index l.units)
    ≡ l.initial.listed.items ++ flat_map (places_on_unit l.index (l.fn.css ∷ [])) l.units
