-- None so far has one.
use Rattle.std.proofs.Common.{◌≡◌, drop}
use Rattle.std.specs.List.{list_any}
use Rattle.iocm_model.specs.Machine.Numbering.{subsystems}
use Rattle.iocm_device_rules.specs.SetCounts.{is_limit_below_in}
use Rattle.iocm_device_rules.proofs.set_counts.is_any_limit_below.Given as goal

abbrev pub invariant-loop-css : goal.invariant-loop-css
invariant-loop-css g l = list_any (is_limit_below_in l.config.records l.in_sets) (drop l.css-index l.css-items)
    ≡ list_any (is_limit_below_in l.config.records l.in_sets) subsystems
