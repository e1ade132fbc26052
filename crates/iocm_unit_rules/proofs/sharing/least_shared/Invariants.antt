-- The least so far, with what the records that are left give, is the least of all.
use Rattle.std.proofs.Common.{◌≡◌, None}
use Rattle.iocm_types.specs.Naming.{naming_cmp}
use Rattle.iocm_table.specs.Slots.{rows}
use Rattle.iocm_model.specs.Machine.Configuration.{lookup_of, records_of}
use Rattle.iocm_lookup.specs.Entries.{in_entries}
use Rattle.iocm_lookup.specs.Among.{least_of}
use Rattle.iocm_unit_rules.specs.Sharing.{shared_of}
use Rattle.iocm_unit_rules.proofs.sharing.least_shared.Given as goal

abbrev pub invariant-loop-entry : goal.invariant-loop-entry
invariant-loop-entry g l =
    least_of (shared_of (lookup_of l.config.records) (rows naming_cmp l.index)) l.least (in_entries l.entry-iterator)
    ≡ least_of (shared_of (lookup_of l.config.records) (rows naming_cmp l.index)) None (records_of l.config.records)
