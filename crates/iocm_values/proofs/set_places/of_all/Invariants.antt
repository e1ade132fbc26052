use Rattle.std.proofs.Common.{◌≡◌, drop, map}
use Rattle.iocm_values.specs.Reading.{gathered, after_front}
use Rattle.iocm_values.specs.SetPlaces.{set_places_in}
use Rattle.iocm_values.proofs.set_places.of_all.Given as goal

abbrev pub invariant-loop-css : goal.invariant-loop-css
invariant-loop-css g l =
    after_front l.found.items
    (gathered (set_places_in g.T.SetItem.in_set g.T.CssItem.subsystem l.places)
    (map (λ css. css) (drop l.css-index l.subsystems)))
    ≡ gathered (set_places_in g.T.SetItem.in_set g.T.CssItem.subsystem l.places) (map (λ css. css) l.subsystems)
