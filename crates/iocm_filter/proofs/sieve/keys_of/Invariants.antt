-- The keys so far, with those that the records that are left give, are those of all.
use Rattle.std.proofs.Common.{◌≡◌, ◌||◌}
use Rattle.std.specs.FinMap.{entries}
use Rattle.iocm_types.specs.declared.key.Key.{Key}
use Rattle.iocm_types.specs.Key.{key_cmp}
use Rattle.iocm_table.specs.Slots.{rows}
use Rattle.iocm_filter.specs.Sieves.{has_key}
use Rattle.iocm_filter.specs.Wanted.{found_among}
use Rattle.iocm_filter.proofs.sieve.keys_of.Given as goal

abbrev pub invariant-loop-entry : goal.invariant-loop-entry
invariant-loop-entry g l = (key : Key)
    → (has_key (rows key_cmp l.keys) key || found_among l.filters l.entry-iterator key)
    ≡ found_among l.filters (entries l.config.records) key
