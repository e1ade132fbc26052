-- Where no device breaks any of the rules, none breaks either of them.
use Rattle.std.proofs.Common.{sym, ◌∙◌}
use Rattle.iocm_device_rules.proofs.AnyRule.{v8_is_kept, v11_is_kept, v12_is_kept}
use Rattle.iocm_device_rules.proofs.wrong_devices.first_wrong_devices.Goals as goal

pub returns-then-not-is_any_wanted-clause-units : goal.returns-then-not-is_any_wanted-clause-units
returns-then-not-is_any_wanted-clause-units g c =
    v8_is_kept c.args.config.now.records (sym c.is_any_wanted.ensures ∙ c.if-not-is_any_wanted.true)

pub returns-then-not-is_any_wanted-clause-path_list : goal.returns-then-not-is_any_wanted-clause-path_list
returns-then-not-is_any_wanted-clause-path_list g c =
    v11_is_kept c.args.config.now.records (sym c.is_any_wanted.ensures ∙ c.if-not-is_any_wanted.true)

pub returns-then-not-is_any_wanted-clause-candidates : goal.returns-then-not-is_any_wanted-clause-candidates
returns-then-not-is_any_wanted-clause-candidates g c =
    v12_is_kept c.args.config.now.records (sym c.is_any_wanted.ensures ∙ c.if-not-is_any_wanted.true)
