-- None of the users so far is such a unit, and those that are left are in order.
use Rattle.std.proofs.Common.{◌≡◌}
use Rattle.std.specs.List.{list_any}
use Rattle.std.specs.List.Sorted.{IsStrictlySortedBy}
use Rattle.iocm_types.specs.declared.key.Key.TheVariants.{Path}
use Rattle.iocm_types.specs.declared.named.Named.TheVariants.{Record}
use Rattle.iocm_types.specs.Key.{key_cmp}
use Rattle.iocm_types.specs.Naming.{naming_cmp}
use Rattle.iocm_table.specs.Slots.{rows}
use Rattle.iocm_index.specs.Namings.{users_in}
use Rattle.iocm_model.specs.Machine.Configuration.{lookup_of}
use Rattle.iocm_record.specs.Meaning.{unit_of}
use Rattle.iocm_unit_rules.specs.Sharing.{clashes_before}
use Rattle.iocm_unit_rules.proofs.sharing.is_shared_on.Given as goal

abbrev pub invariant-loop-user : goal.invariant-loop-user
invariant-loop-user g l = record {
  rest : list_any (clashes_before (lookup_of l.config.records) (unit_of l.fields) l.fn.path) l.user-iterator
      ≡ list_any (clashes_before (lookup_of l.config.records) (unit_of l.fields) l.fn.path)
      (users_in (Record (Path l.fn.path.css l.fn.path.path)) (rows naming_cmp l.index));
  order : IsStrictlySortedBy key_cmp l.user-iterator;
}
