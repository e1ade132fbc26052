use Rattle.std.proofs.Common.{◌∙◌}
use Rattle.iocm_device_rules.proofs.ClashesAmong.{least_clash_is_first}
use Rattle.iocm_device_rules.proofs.among.first_address_twice_among.Goals as goal

pub returns : goal.returns
returns g c = c.least_clash_among.ensures
    ∙ least_clash_is_first c.args.config.now.records c.args.index.now c.has_own_keys.ensures c.requires.index
    c.args.keys.now c.requires.clashes
