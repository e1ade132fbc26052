-- In none of the channel subsystems so far is it.
use Rattle.std.proofs.Common.{◌≡◌, false, nat_le, drop}
use Rattle.std.specs.FinMap.{get}
use Rattle.std.specs.List.{list_any}
use Rattle.std.specs.Option.{option_map_or}
use Rattle.iocm_types.specs.declared.key.Key.TheVariants.{Limit}
use Rattle.iocm_model.specs.Machine.Configuration.{lookup_of}
use Rattle.iocm_model.specs.Machine.Numbering.{subsystems}
use Rattle.iocm_model.specs.Rules.EachRule.{limit_or_default}
use Rattle.iocm_device_rules.proofs.limits.is_past_limit.Given as goal

abbrev pub invariant-loop-css : goal.invariant-loop-css
invariant-loop-css g l =
    list_any (λ css. option_map_or (nat_le (limit_or_default l.set (lookup_of l.config.records (Limit css l.set))))
    (get l.numbers.numbers (record { css = css; set = l.set; device = l.device })) false)
    (drop l.css-index l.css-items)
    ≡ list_any (λ css. option_map_or (nat_le (limit_or_default l.set (lookup_of l.config.records (Limit css l.set))))
    (get l.numbers.numbers (record { css = css; set = l.set; device = l.device })) false) subsystems
