-- The images so far, with those that the records that are left give, are all.
use Rattle.std.proofs.Common.{◌≡◌, ◌++◌}
use Rattle.iocm_sight.specs.Connected.{asked_among, asked_images}
use Rattle.iocm_sight.proofs.asked.asked_images.Given as goal

abbrev pub invariant-loop-entry : goal.invariant-loop-entry
invariant-loop-entry l =
    l.images.items ++ asked_among l.filters l.entry-iterator ≡ asked_images l.filters l.config.records
