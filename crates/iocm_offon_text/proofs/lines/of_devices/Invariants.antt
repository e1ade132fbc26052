-- The reasons so far, with those of the runs to come, are all.
use Rattle.std.proofs.Common.{◌≡◌, ◌++◌, drop, filter}
use Rattle.std.specs.List.{flat_map}
use Rattle.iocm_plan.specs.declared.runs.DeviceRun.{DeviceRun}
use Rattle.iocm_offon_text.specs.Lines.{overlaps, run_key}
use Rattle.iocm_offon.specs.UnderKeys.{under}
use Rattle.iocm_offon_text.proofs.lines.of_devices.Given as goal

abbrev pub invariant-loop-run : goal.invariant-loop-run
invariant-loop-run l =
    l.own.items ++ flat_map (λ (d : DeviceRun). under l.table (run_key d))
    (filter (overlaps l.set l.first l.count) (drop l.run-index l.runs))
    ≡ flat_map (λ (d : DeviceRun). under l.table (run_key d)) (filter (overlaps l.set l.first l.count) l.runs)
