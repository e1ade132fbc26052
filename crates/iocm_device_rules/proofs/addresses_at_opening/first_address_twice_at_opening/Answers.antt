-- Where no address is there twice.
use Rattle.std.proofs.Common.{sym, ap, ◌∙◌}
use Rattle.iocm_model.specs.Rules.EachRule.{has_twice}
use Rattle.iocm_device_rules.proofs.AddressesApart.{none_twice}
use Rattle.iocm_device_rules.proofs.addresses_at_opening.first_address_twice_at_opening.Goals as goal

pub returns-then-not-branch : goal.returns-then-not-branch
returns-then-not-branch g c = none_twice c.args.config.now.records c.has_own_keys.ensures
    (ap has_twice (sym c.in_ok-listed.ensures) ∙ sym c.in_ok-is_any_twice.ensures ∙ c.if-not-branch.true)
