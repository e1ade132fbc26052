-- The copies so far, and the records that are left.
use Rattle.std.proofs.Common.{◌≡◌, ◌++◌}
use Rattle.std.specs.FinMap.{entries}
use Rattle.std.specs.Map.{values_of}
use Rattle.iocm_core.proofs.opening.copies_of.Given as goal

abbrev pub invariant-loop-entry : goal.invariant-loop-entry
invariant-loop-entry l = l.copies.items ++ values_of l.entry-iterator ≡ values_of (entries l.config.records)
