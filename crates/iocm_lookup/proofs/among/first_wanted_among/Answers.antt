use Rattle.std.proofs.Common.{◌∙◌}
use Rattle.iocm_lookup.proofs.LeastAmong.{least_wanted_is_first}
use Rattle.iocm_lookup.proofs.among.first_wanted_among.Goals as goal

pub returns : goal.returns
returns g c = let all = c.args.config.now.records in
    c.least_wanted.ensures ∙ least_wanted_is_first all (g.W.Wanted.wants c.args.wanted.now all) c.has_own_keys.ensures
    c.args.keys.now c.requires.only
