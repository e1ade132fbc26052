-- On none of the paths so far one answers.
use Rattle.std.proofs.Common.{◌≡◌, drop}
use Rattle.std.specs.List.{list_any}
use Rattle.iocm_types.specs.Naming.{naming_cmp}
use Rattle.iocm_table.specs.Slots.{rows}
use Rattle.iocm_model.specs.Machine.Configuration.{lookup_of}
use Rattle.iocm_record.specs.Meaning.{unit_of}
use Rattle.iocm_unit_rules.specs.Sharing.{clashes_on}
use Rattle.iocm_breaches.proofs.sharing.is_shared_on_any.Given as goal

abbrev pub invariant-loop-path : goal.invariant-loop-path
invariant-loop-path g l =
    list_any (clashes_on (lookup_of l.config.records) (rows naming_cmp l.index) (unit_of l.fields))
    (drop l.path-index l.paths)
    ≡ list_any (clashes_on (lookup_of l.config.records) (rows naming_cmp l.index) (unit_of l.fields)) l.paths
