-- The devices so far, with those of the runs that are left, are all.
use Rattle.std.proofs.Common.{◌≡◌, ◌+◌, drop}
use Rattle.std.specs.Prelude.{sum_by}
use Rattle.iocm_model.specs.Machine.Configuration.{lookup_of}
use Rattle.iocm_sight.specs.Counts.{is_in}
use Rattle.iocm_sight.proofs.RunSums.{run_count}
use Rattle.iocm_sight.proofs.set_numbers.count_used.Given as goal

abbrev pub invariant-loop-run : goal.invariant-loop-run
invariant-loop-run l = let is = is_in (lookup_of l.config.records) l.css l.set in
    l.used + sum_by (run_count is) (drop l.run-index l.every) ≡ sum_by (run_count is) l.every
