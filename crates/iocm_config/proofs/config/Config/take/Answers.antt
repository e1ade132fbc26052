use Rattle.std.proofs.Common.{subst, sym}
use Rattle.iocm_types.specs.Key.{key_cmp}
use Rattle.iocm_model.specs.Machine.Configuration.{IsKeyed}
use Rattle.iocm_table.specs.Slots.{rows}
use Rattle.iocm_config.proofs.Keyed.{keyed_taken}
use Rattle.iocm_config.proofs.config.Config.take.Goals as goal

pub invariant_of-self : goal.invariant_of-self
invariant_of-self g c = subst IsKeyed (sym c.take.ensures.rows)
    (keyed_taken (rows key_cmp c.self.inside.table) c.args.key.now c.self.invariant)
