-- The namings that are listed, with those of the records that are left, are all.
use Rattle.std.proofs.Common.{◌≡◌, ◌||◌}
use Rattle.std.specs.List.{list_any}
use Rattle.std.specs.Ordering.{eq_by_cmp}
use Rattle.iocm_types.specs.declared.naming.Naming.{Naming}
use Rattle.iocm_types.specs.Naming.{naming_cmp}
use Rattle.iocm_index.specs.Namings.{is_naming_of}
use Rattle.iocm_model.specs.Machine.Configuration.{records_of}
use Rattle.iocm_lookup.specs.Entries.{in_entries}
use Rattle.iocm_lookup.proofs.indexing.index_of.Given as goal

abbrev pub invariant-loop-entry : goal.invariant-loop-entry
invariant-loop-entry g l =
    (n : Naming) → (list_any (λ r. is_naming_of r n) (in_entries l.entry-iterator)
    || list_any (eq_by_cmp naming_cmp n) l.namings.items)
    ≡ list_any (λ r. is_naming_of r n) (records_of l.config.records)
