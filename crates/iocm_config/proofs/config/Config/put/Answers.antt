use Rattle.std.proofs.Common.{subst, sym}
use Rattle.std.specs.FinMap.{insert}
use Rattle.iocm_types.specs.Key.{key_cmp}
use Rattle.iocm_types.specs.declared.key.Key.{Key}
use Rattle.iocm_model.specs.Machine.Configuration.{IsKeyed}
use Rattle.iocm_table.specs.Slots.{rows}
use Rattle.iocm_config.proofs.Keyed.{keyed_put}
use Rattle.iocm_config.proofs.config.Config.put.Goals as goal

pub invariant_of-self : goal.invariant_of-self
invariant_of-self g c = subst IsKeyed (sym c.put.ensures.rows)
    (subst (λ (k : Key). IsKeyed (insert (rows key_cmp c.self.inside.table) k c.args.entry)) (sym c.key-key.ensures)
    (keyed_put (rows key_cmp c.self.inside.table) c.args.entry c.self.invariant))
