use Rattle.std.proofs.Common.{refl}
use Rattle.iocm_model.specs.Rules.EachRule.{breaks_v8}
use Rattle.iocm_device_rules.proofs.LikeDevices.{alike}
use Rattle.iocm_device_rules.proofs.devices.WrongUnitsWanted.is_like.Goals as goal

pub returns : goal.returns
returns g c config are =
    alike (breaks_v8 config) (λ d. refl) c.args.entry.now c.args.other.now (c.are_on_same_units.ensures are)
