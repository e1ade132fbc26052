-- What is refused in a channel subsystem refuses the list.
use Rattle.std.proofs.lemmas.Result.{err_from_is_err_and}
use Rattle.iocm_values.proofs.Reading.{gathered_refused}
use Rattle.iocm_values.specs.SetPlaces.{set_places_in}
use Rattle.iocm_values.proofs.set_places.of_all.Goals as goal

pub returns-in_err-entries : goal.returns-in_err-entries
returns-in_err-entries g c =
    let p = err_from_is_err_and c.from_residual.result c.from_residual.ensures.1 in
    rw (p.1, p.2) (gathered_refused (λ css. css)
    (set_places_in g.T.SetItem.in_set g.T.CssItem.subsystem c.args.places.now) _ c.args.subsystems.now _ 0 _ _
    c.loop-css-test.true c.in_err-entries.ensures c.loop-css.invariant)
