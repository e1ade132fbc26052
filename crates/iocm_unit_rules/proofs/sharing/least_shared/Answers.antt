-- Before the first record all are left.
use Rattle.std.proofs.Common.{None, ap, ◌∙◌}
use Rattle.iocm_types.specs.Naming.{naming_cmp}
use Rattle.iocm_table.specs.Slots.{rows}
use Rattle.iocm_model.specs.Machine.Configuration.{lookup_of}
use Rattle.iocm_lookup.specs.Entries.{in_entries}
use Rattle.iocm_lookup.specs.Among.{least_of}
use Rattle.iocm_unit_rules.specs.Sharing.{shared_of}
use Rattle.iocm_unit_rules.proofs.sharing.least_shared.Goals as goal

pub loop-entry-init : goal.loop-entry-init
loop-entry-init g c = ap
    (λ es. least_of (shared_of (lookup_of c.args.config.now.records) (rows naming_cmp c.args.index.now)) None
    (in_entries es))
    (c.into_iter-entry-iterator.ensures.into_iter_gives ∙ c.walk-entry-items.ensures.entries)
