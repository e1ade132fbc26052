-- The images so far, with those of the records that are left, are all.
use Rattle.std.proofs.Common.{◌≡◌, ◌++◌, map}
use Rattle.iocm_model.specs.Machine.Configuration.{records_of}
use Rattle.iocm_sight.specs.Seen.{sights_in}
use Rattle.iocm_sight.proofs.sight.sights_asked.Given as goal

abbrev pub invariant-loop-entry : goal.invariant-loop-entry
invariant-loop-entry l = l.sights.items ++ sights_in l.filters l.config.records (map (λ e. e.1) l.entry-iterator)
    ≡ sights_in l.filters l.config.records (records_of l.config.records)
