-- Where no device has a number past its limit.
use Rattle.std.proofs.Common.{sym, ◌∙◌}
use Rattle.iocm_types.specs.declared.rule.Rule.TheVariants.{V13}
use Rattle.iocm_types.proofs.Tests.{absent}
use Rattle.iocm_model.specs.Machine.Numbering.{opening}
use Rattle.iocm_model.specs.Rules.EachRule.{breaks_v13}
use Rattle.iocm_breaches.proofs.NotBroken.{nothing_behind}
use Rattle.iocm_breaches.proofs.sought.list_past_limit.Goals as goal

pub returns-then-is_none : goal.returns-then-is_none
returns-then-is_none g c =
    nothing_behind V13 (breaks_v13 c.args.config.now.records (opening c.args.config.now.records))
    c.args.config.now.records
    c.args.breaches.now.items
    (sym c.in_ok-first_past_limit_at_opening.ensures
    ∙ absent c.in_ok-first_past_limit_at_opening.field-0 c.if-is_none.ensures)
