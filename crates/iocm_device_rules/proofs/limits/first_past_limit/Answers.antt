use Rattle.std.proofs.Common.{sym, ◌∙◌}
use Rattle.iocm_device_rules.proofs.PastLimits.{none_past_limit}
use Rattle.iocm_device_rules.proofs.limits.first_past_limit.Goals as goal

pub returns-then-not-is_any_past_limit : goal.returns-then-not-is_any_past_limit
returns-then-not-is_any_past_limit g c =
    none_past_limit c.args.config.now.records c.args.numbers.now.numbers
    (sym c.is_any_past_limit.ensures ∙ c.if-not-is_any_past_limit.true)
