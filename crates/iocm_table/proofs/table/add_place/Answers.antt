use Rattle.std.proofs.Common.{ap, ◌∙◌}
use Rattle.iocm_table.specs.Slots.{present}
use Rattle.iocm_table.proofs.Adding.{present_added}
use Rattle.iocm_table.proofs.table.add_place.Goals as goal

pub returns-clause-rows : goal.returns-clause-rows
returns-clause-rows g c =
    ap present c.in_ok-insert.ensures.entries ∙ present_added g.K.Ord.cmp c.args.key c.args.slots.now.entries c.requires
