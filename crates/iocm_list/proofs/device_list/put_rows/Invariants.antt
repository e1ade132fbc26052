-- The rows so far, with those of the runs that are left, are all; the images stay as they are.
use Rattle.std.proofs.Common.{◌≡◌, ◌++◌, drop, filter, map}
use Rattle.iocm_list.specs.DeviceRows.{device_row, is_listed}
use Rattle.iocm_list.proofs.device_list.put_rows.Given as goal

abbrev pub invariant-loop-run : goal.invariant-loop-run
invariant-loop-run l = let w = l.filters in let m = l.config.records in record {
  left : l.rows.items ++ filter (is_listed w) (map (device_row w m) (drop l.run-index l.runs))
      ≡ l.initial.rows.items ++ filter (is_listed w) (map (device_row w m) l.runs);
  same : l.sights ≡ l.initial.sights;
}
