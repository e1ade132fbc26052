-- The counts so far, with those of the runs that are left, are all.
use Rattle.std.proofs.Common.{◌≡◌, ◌+◌, drop}
use Rattle.std.specs.Prelude.{sum_by}
use Rattle.iocm_model.specs.Machine.Configuration.{lookup_of}
use Rattle.iocm_model.specs.Machine.Sight.{sees}
use Rattle.iocm_sight.specs.Counts.{sees_with}
use Rattle.iocm_sight.proofs.RunSums.{run_count}
use Rattle.iocm_sight.proofs.counts.seen_counts.Given as goal

abbrev pub invariant-loop-run : goal.invariant-loop-run
invariant-loop-run l = let s = l.initial.sight in
    let c = lookup_of s.records in
    let all = run_count (sees c s.image.css s.image.name) in record {
      devices : l.devices + sum_by all (drop l.run-index l.every) ≡ sum_by all l.every;
      no_path : l.no_path + sum_by (run_count (sees_with 0 c s.image)) (drop l.run-index l.every)
          ≡ sum_by (run_count (sees_with 0 c s.image)) l.every;
      one_path : l.one_path + sum_by (run_count (sees_with 1 c s.image)) (drop l.run-index l.every)
          ≡ sum_by (run_count (sees_with 1 c s.image)) l.every;
      same : l.sight ≡ s;
    }
