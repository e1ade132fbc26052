-- The breaches so far, with those of the records that are left, are all; and addresses have eight
-- bits.
use Rattle.std.proofs.Common.{◌≡◌, false, ◌++◌}
use Rattle.iocm_model.specs.Machine.Configuration.{records_of}
use Rattle.iocm_lookup.specs.Entries.{in_entries}
use Rattle.iocm_breaches.specs.Addresses.{is_met, listed_from, HaveBytes}
use Rattle.iocm_breaches.proofs.addresses.list_taken.Given as goal

abbrev pub invariant-loop-entry : goal.invariant-loop-entry
invariant-loop-entry g l = record {
  listed : l.breaches.items ++ listed_from (is_met l.met) (in_entries l.entry-iterator)
      ≡ l.fn.breaches.items ++ listed_from (λ n. false) (records_of l.config.records);
  bytes : HaveBytes (in_entries l.entry-iterator) → HaveBytes (records_of l.config.records);
}
