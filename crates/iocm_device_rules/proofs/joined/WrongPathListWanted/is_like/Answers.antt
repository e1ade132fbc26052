use Rattle.std.proofs.Common.{refl}
use Rattle.iocm_model.specs.Rules.EachRule.{breaks_v11}
use Rattle.iocm_device_rules.proofs.LikeDevices.{alike}
use Rattle.iocm_device_rules.proofs.joined.WrongPathListWanted.is_like.Goals as goal

pub returns : goal.returns
returns g c config are =
    alike (breaks_v11 config) (λ d. refl) c.args.entry.now c.args.other.now (c.are_on_same_units.ensures are)
