-- The users of a path are those that name it.
use Rattle.std.proofs.Common.{ap, ◌∙◌}
use Rattle.std.specs.List.{list_any}
use Rattle.iocm_types.specs.Naming.{naming_cmp}
use Rattle.iocm_table.specs.Slots.{rows}
use Rattle.iocm_model.specs.Machine.Configuration.{lookup_of}
use Rattle.iocm_record.specs.Meaning.{unit_of}
use Rattle.iocm_unit_rules.specs.Sharing.{clashes_on}
use Rattle.iocm_breaches.proofs.Sharers.{shared_is}
use Rattle.iocm_breaches.proofs.sharing.is_address_shared.Goals as goal

pub returns : goal.returns
returns g c = c.is_shared_on_any.ensures
    ∙ ap (list_any (clashes_on (lookup_of c.args.config.now.records) (rows naming_cmp c.args.index.now)
    (unit_of c.args.fields.now))) c.as_slice.ensures
    ∙ shared_is c.args.config.now.records c.args.index.now c.has_own_keys.ensures c.requires (unit_of c.args.fields.now)
