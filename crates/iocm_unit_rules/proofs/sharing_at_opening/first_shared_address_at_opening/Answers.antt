-- Where no address is there twice, and where no two ranges meet.
use Rattle.std.proofs.Common.{sym, ap, ◌∙◌}
use Rattle.iocm_model.specs.Rules.EachRule.{has_twice}
use Rattle.iocm_unit_rules.specs.LinkRanges.{any_meet}
use Rattle.iocm_unit_rules.proofs.LinksApart.{none_shares}
use Rattle.iocm_unit_rules.proofs.LinkRanges.{none_meet}
use Rattle.iocm_unit_rules.proofs.sharing_at_opening.first_shared_address_at_opening.Goals as goal

pub returns-then-not-branch : goal.returns-then-not-branch
returns-then-not-branch g c = none_shares c.args.config.now.records c.has_own_keys.ensures
    (ap has_twice (sym c.in_ok-listed.ensures) ∙ sym c.in_ok-is_any_twice.ensures ∙ c.if-not-branch.true)

pub returns-then-branch : goal.returns-then-branch
returns-then-branch g c = none_meet c.args.config.now.records
    (ap any_meet (sym c.in_ok-ranges.ensures) ∙ c.in_ok-are_apart.ensures.apart c.if-branch.true)
