-- The devices of the users of the control units, each once.
use Rattle.std.proofs.Common.{◌≡◌, ap, ◌∙◌}
use Rattle.std.proofs.lemmas.Result.{IfOk-weaker}
use Rattle.std.specs.List.{filter_map}
use Rattle.iocm_sight.specs.Connected.{device_key, devices_on}
use Rattle.iocm_sight.proofs.Connecting.{devices_are}
use Rattle.iocm_sight.proofs.links.devices_on.Goals as goal

pub returns : goal.returns
returns c =
    let listing = c.args.listing.now in
    IfOk-weaker c.devices_among.result
    (λ devices. devices.items ≡ filter_map device_key c.as_slice.result.now)
    (λ devices. devices.items ≡ devices_on listing.config.now.records c.args.units.now)
    (λ devices is. is ∙ ap (filter_map device_key) c.as_slice.ensures.value
    ∙ devices_are listing.config.now.records listing.index c.has_own_keys.ensures listing.indexed c.args.units.now
    c.in_ok-users_of_all.field-0.items c.in_ok-keys.keys.items c.in_ok-users_of_all.ensures
    c.in_ok-keys.ensures.order c.in_ok-keys.ensures.same)
    c.devices_among.ensures
