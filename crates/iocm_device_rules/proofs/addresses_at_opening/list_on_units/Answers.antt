-- One unit more, and all.
use Rattle.std.proofs.Common.{sym, ap, ◌++◌, ◌∷◌, [], ◌∙◌}
use Rattle.iocm_device_rules.proofs.AddressesApart.{unit_more, unit_end}
use Rattle.iocm_device_rules.proofs.addresses_at_opening.list_on_units.Goals as goal

pub loop-unit-preserved : goal.loop-unit-preserved
loop-unit-preserved g c =
    unit_more c.args.address c.args.units.now c.loop-unit.unit-index c.unit-item.result c.loop-unit.listed.items
    c.push.new.self.items
    c.loop-unit-test.true c.unit-item.is
    (c.in_ok-push.ensures.items ∙ ap (λ n. c.loop-unit.listed.items ++ (n ∷ [])) c.number_on.ensures)
    ∙ c.loop-unit.invariant

pub returns : goal.returns
returns g c = sym (unit_end c.args.address c.args.units.now c.loop-unit.unit-index c.loop-unit.listed.items
    c.loop-unit-test.false) ∙ c.loop-unit.invariant
