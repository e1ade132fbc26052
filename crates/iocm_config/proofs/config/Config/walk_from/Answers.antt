use Rattle.std.proofs.Common.{sym, ap, subst}
use Rattle.iocm_types.specs.Key.{key_cmp}
use Rattle.iocm_table.specs.Slots.{rows}
use Rattle.iocm_model.specs.Machine.Configuration.{Configuration}
use Rattle.iocm_config.specs.Stored.{Stored}
use Rattle.iocm_config.specs.Walked.{AreOf}
use Rattle.iocm_config.proofs.Walks.{walked_are_of}
use Rattle.iocm_config.proofs.config.Config.walk_from.Goals as goal

pub returns-clause-records : goal.returns-clause-records
returns-clause-records g c =
    let m : Configuration = rows key_cmp c.self.inside.table in
    subst (λ (k : Configuration). AreOf k c.walk_from.result) (ap (λ (s : Stored). s.records) c.self.view_is)
    (subst (AreOf m) (sym c.walk_from.ensures.entries) (walked_are_of m c.args.from.now))
