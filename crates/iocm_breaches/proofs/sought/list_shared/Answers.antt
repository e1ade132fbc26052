-- Where no unit shares an address, and by an index.
use Rattle.iocm_types.specs.declared.rule.Rule.TheVariants.{V14}
use Rattle.iocm_model.specs.Rules.EachRule.{breaks_v14}
use Rattle.iocm_breaches.proofs.NotBroken.{nothing_behind}
use Rattle.iocm_breaches.proofs.sought.list_shared.Goals as goal

pub returns-then-branch : goal.returns-then-branch
returns-then-branch g c = nothing_behind V14 (breaks_v14 c.args.config.now.records) c.args.config.now.records
    c.args.breaches.now.items
    (c.in_ok-is_none_shared.ensures c.if-branch.true)
