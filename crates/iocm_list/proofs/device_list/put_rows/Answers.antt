use Rattle.std.proofs.Common.{◌+◌, ◌++◌, drop, filter, map, ap, ◌∙◌}
use Rattle.iocm_list.specs.DeviceRows.{device_row, is_listed}
use Rattle.iocm_list.proofs.OneMore.{next_item}
use Rattle.iocm_list.proofs.device_list.put_rows.Goals as goal

pub loop-run-preserved : goal.loop-run-preserved
loop-run-preserved c =
    let w = c.args.filters.now in
    let m = c.args.config.now.records in
    let rest = filter (is_listed w) (map (device_row w m) (drop (c.loop-run.run-index + 1) c.args.runs.now)) in record {
      left = ap (λ l. l ++ rest) c.in_ok-put_row.ensures.rows
          ∙ next_item (is_listed w) (device_row w m) c.loop-run.rows.items c.args.runs.now c.loop-run.run-index
          c.run-item.result c.loop-run-test.true c.run-item.is
          ∙ c.loop-run.invariant.left;
      same = c.in_ok-put_row.ensures.same ∙ c.loop-run.invariant.same;
    }
