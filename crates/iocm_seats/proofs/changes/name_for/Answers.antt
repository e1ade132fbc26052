use Rattle.std.proofs.Common.{Option, List, ℕ, sym, subst, None}
use Rattle.std.specs.List.{AllByRecursion}
use Rattle.iocm_seats.specs.Sights.{IsNamedAt}
use Rattle.iocm_seats.proofs.Named.{looked_up, no_name_needed}
use Rattle.iocm_seats.proofs.changes.name_for.Goals as goal

pub returns-then-not-any_has_device-clause-name : goal.returns-then-not-any_has_device-clause-name
returns-then-not-any_has_device-clause-name g c =
    no_name_needed c.args.image.now None c.args.sights.now (sym c.if-not-any_has_device.ensures)

pub returns-clause-name : goal.returns-clause-name
returns-clause-name g c = subst
    (λ (o : Option (List ℕ)). AllByRecursion (IsNamedAt c.args.image.now o) c.args.sights.now) (sym c.name.ensures.name)
    (looked_up c.args.names.now c.args.image.now c.args.sights.now c.requires)
