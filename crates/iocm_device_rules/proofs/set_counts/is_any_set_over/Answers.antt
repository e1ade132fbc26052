-- Where there are few records, and where the devices are counted.
use Rattle.std.proofs.Common.{replicate, ap, sym, ◌∙◌}
use Rattle.std.specs.List.{list_any}
use Rattle.iocm_model.specs.Machine.Numbering.{subsystems}
use Rattle.iocm_device_rules.specs.SetCounts.{is_limit_below_in}
use Rattle.iocm_device_rules.proofs.SetCounts.{none_with_few, over_by_counts}
use Rattle.iocm_device_rules.proofs.set_counts.is_any_set_over.Goals as goal

pub returns-then-not-is_any_limit_below : goal.returns-then-not-is_any_limit_below
returns-then-not-is_any_limit_below g c =
    sym (none_with_few c.args.config.now.records
    (ap (λ n. list_any (is_limit_below_in c.args.config.now.records (replicate 4 n)) subsystems)
    (sym c.len-most.ensures)
    ∙ sym c.is_any_limit_below.ensures ∙ c.if-not-is_any_limit_below.true))

pub returns : goal.returns
returns g c = c.is_any_limit_below-2.ensures
    ∙ over_by_counts c.args.config.now.records c.count_devices.result c.count_devices.ensures
