-- The records so far, with those that are left, are all.
use Rattle.std.proofs.Common.{◌≡◌, ◌++◌}
use Rattle.iocm_lookup.specs.Entries.{in_entries}
use Rattle.iocm_model.specs.Machine.Configuration.{records_of}
use Rattle.iocm_answer.proofs.copying.copied.Given as goal

abbrev pub invariant-loop-entry : goal.invariant-loop-entry
invariant-loop-entry l = l.records.items ++ in_entries l.entry-iterator ≡ records_of l.config.records
