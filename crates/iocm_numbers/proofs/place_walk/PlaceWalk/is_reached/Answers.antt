-- A place is reached where the record of its device is.
use Rattle.std.proofs.Common.{arith, sym, ap, ◌∙◌}
use Rattle.iocm_model.specs.Machine.Configuration.{Configuration, lookup_of}
use Rattle.iocm_model.specs.Machine.Numbering.{is_record_reached, is_reached_at}
use Rattle.iocm_model.proofs.Numbers.Opening.{reached_places_are_of_devices}
use Rattle.iocm_numbers.proofs.place_walk.PlaceWalk.is_reached.Goals as goal

pub returns-in-Some-clause-reached : goal.returns-in-Some-clause-reached
returns-in-Some-clause-reached g c =
    let place = c.args.place.now in
    c.is_device_reached.ensures.reached
    ∙ (λ i. is_record_reached (lookup_of (c.self.invariant.0 i)) place.css (c.in-Some.ensures.record i))
    ∙ sym (reached_places_are_of_devices c.self.inside.devices place c.self.invariant.1 (omega arith) (omega arith))
    ∙ ap (λ (m : Configuration). is_reached_at m place) c.self.view_is

pub returns-in-None-clause-reached : goal.returns-in-None-clause-reached
returns-in-None-clause-reached g c =
    let place = c.args.place.now in
    ap (is_record_reached (lookup_of c.self.inside.devices) place.css) c.in-None.ensures.record
    ∙ sym (reached_places_are_of_devices c.self.inside.devices place c.self.invariant.1 (omega arith) (omega arith))
    ∙ ap (λ (m : Configuration). is_reached_at m place) c.self.view_is
