-- Where no set has more devices than a limit of it, where no number at opening is past its limit, and
-- where the numbers are made.
use Rattle.std.proofs.Common.{sym, ap, ◌∙◌}
use Rattle.std.specs.Option.{option_map}
use Rattle.iocm_model.specs.Machine.Configuration.{records_of}
use Rattle.iocm_model.specs.Machine.Record.{key_of}
use Rattle.iocm_model.specs.Rules.EachRule.{breaks_v13}
use Rattle.iocm_model.specs.Rules.FirstBreach.{first_record}
use Rattle.iocm_device_rules.proofs.PastLimits.{none_past_limit_at_opening}
use Rattle.iocm_device_rules.proofs.SetCounts.{none_over}
use Rattle.iocm_device_rules.proofs.limits_at_opening.first_past_limit_at_opening.Goals as goal

pub returns-then-not-is_any_set_over : goal.returns-then-not-is_any_set_over
returns-then-not-is_any_set_over g c =
    none_past_limit_at_opening c.args.config.now.records
    (none_over c.args.config.now.records (sym c.is_any_set_over.ensures ∙ c.if-not-is_any_set_over.true))

pub returns-then-not-branch : goal.returns-then-not-branch
returns-then-not-branch g c =
    none_past_limit_at_opening c.args.config.now.records
    (sym c.in_ok-is_any_past_at_opening.ensures ∙ c.if-not-branch.true)

pub returns : goal.returns
returns g c = c.first_past_limit.ensures
    ∙ ap (λ n. option_map key_of
    (first_record (breaks_v13 c.args.config.now.records n) (records_of c.args.config.now.records)))
    c.in_ok-numbers.ensures
