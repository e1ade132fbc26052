use Rattle.std.proofs.Common.{◌∙◌}
use Rattle.iocm_device_rules.proofs.Culprits.{least_is_first}
use Rattle.iocm_device_rules.proofs.addresses.first_address_twice.Goals as goal

pub returns : goal.returns
returns g c = c.least_clash.ensures
    ∙ least_is_first c.args.config.now.records c.args.index.now c.has_own_keys.ensures c.requires.index c.requires.units
