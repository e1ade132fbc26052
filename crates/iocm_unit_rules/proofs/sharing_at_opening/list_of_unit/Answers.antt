-- One channel subsystem more, and all.
use Rattle.std.proofs.Common.{sym, ◌∙◌}
use Rattle.iocm_record.specs.Meaning.{unit_of}
use Rattle.iocm_unit_rules.specs.LinkNumbers.{numbers_in}
use Rattle.iocm_unit_rules.proofs.LinkNumbers.{part_more, part_end}
use Rattle.iocm_unit_rules.proofs.sharing_at_opening.list_of_unit.Goals as goal

pub loop-css-preserved : goal.loop-css-preserved
loop-css-preserved g c =
    part_more (numbers_in (unit_of c.args.fields.now)) c.as_slice-css-items.result.now c.loop-css.css-index
    c.css-item.result c.loop-css.listed.items
    c.list_in_subsystem.new.listed.items c.loop-css-test.true c.css-item.is c.in_ok-list_in_subsystem.ensures
    ∙ c.loop-css.invariant

pub returns : goal.returns
returns g c =
    sym (part_end (numbers_in (unit_of c.args.fields.now)) c.as_slice-css-items.result.now c.loop-css.css-index
    c.loop-css.listed.items c.loop-css-test.false)
    ∙ c.loop-css.invariant
