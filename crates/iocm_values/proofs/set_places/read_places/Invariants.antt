use Rattle.std.proofs.Common.{◌≡◌, drop}
use Rattle.iocm_values.specs.Reading.{every_at, after_front}
use Rattle.iocm_values.specs.SetPlaces.{place_at}
use Rattle.iocm_values.proofs.set_places.read_places.Given as goal

abbrev pub invariant-loop-set : goal.invariant-loop-set
invariant-loop-set g l =
    after_front l.found.items (every_at (place_at g.T.SetItem.in_set) l.set (drop l.set l.places))
    ≡ every_at (place_at g.T.SetItem.in_set) 0 l.places
