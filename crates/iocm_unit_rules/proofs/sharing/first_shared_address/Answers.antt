use Rattle.std.proofs.Common.{◌∙◌}
use Rattle.iocm_unit_rules.proofs.SharedFirst.{least_is_first}
use Rattle.iocm_unit_rules.proofs.sharing.first_shared_address.Goals as goal

pub returns : goal.returns
returns g c = c.least_shared.ensures
    ∙ least_is_first c.args.config.now.records c.args.index.now c.has_own_keys.ensures c.requires.index c.requires.paths
