-- The first is there where any is.
use Rattle.std.proofs.Common.{is_some, ap, ◌∙◌}
use Rattle.iocm_model.specs.Machine.Configuration.{records_of}
use Rattle.iocm_lookup.proofs.Walks.{first_of_any}
use Rattle.iocm_lookup.proofs.wanted.is_any_wanted.Goals as goal

pub returns : goal.returns
returns g c = c.is_some.ensures ∙ ap is_some c.first_wanted.ensures
    ∙ first_of_any (g.W.Wanted.wants c.args.wanted.now c.args.config.now.records) (records_of c.args.config.now.records)
