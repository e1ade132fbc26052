-- The paths so far, with those of the numbers that are left, are all.
use Rattle.std.proofs.Common.{◌≡◌, ◌+◌, ◌≤◌, drop, length, filter}
use Rattle.iocm_model.specs.Machine.Configuration.{lookup_of}
use Rattle.iocm_model.specs.Machine.Mask.{is_online}
use Rattle.iocm_model.specs.Machine.Sight.{reaches}
use Rattle.iocm_sight.specs.Counts.{path_numbers, online_of}
use Rattle.iocm_sight.proofs.image_paths.count_online.Given as goal

abbrev pub invariant-loop-number : goal.invariant-loop-number
invariant-loop-number l = let c = lookup_of l.config.records in record {
  few : l.count ≤ l.number;
  left : l.count + length (filter (is_online c l.css l.name)
      (filter (reaches c l.css l.name) (drop l.number path_numbers)))
      ≡ length (online_of c l.css l.name);
}
