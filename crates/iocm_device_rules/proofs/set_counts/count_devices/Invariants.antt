-- What was counted of each set, with the devices that are left, is all.
use Rattle.std.proofs.Common.{◌≡◌, ℕ, ◌+◌, ◌<◌, get_or}
use Rattle.iocm_model.specs.Machine.Configuration.{records_of}
use Rattle.iocm_device_rules.specs.SetCounts.{count_among}
use Rattle.iocm_device_rules.proofs.set_counts.count_devices.Given as goal

abbrev pub invariant-loop-entry : goal.invariant-loop-entry
invariant-loop-entry g l =
    (s : ℕ) → s < 4 → get_or l.in_sets s 0 + count_among s l.entry-iterator
    ≡ count_among s (records_of l.config.records)
