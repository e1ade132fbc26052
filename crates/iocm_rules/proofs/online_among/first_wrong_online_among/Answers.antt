use Rattle.std.proofs.Common.{◌∙◌}
use Rattle.iocm_rules.proofs.OnPaths.{least_on_paths_is_first}
use Rattle.iocm_rules.proofs.online_among.first_wrong_online_among.Goals as goal

pub returns : goal.returns
returns g c = c.least_on_paths.ensures
    ∙ least_on_paths_is_first c.args.config.now.records c.args.index.now c.has_own_keys.ensures c.requires.index
    c.args.keys.now c.requires.paths
