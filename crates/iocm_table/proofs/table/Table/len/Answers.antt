use Rattle.std.proofs.Common.{sym, ◌∙◌}
use Rattle.iocm_table.proofs.Lookups.{len_of_rows}
use Rattle.iocm_table.proofs.table.Table.len.Goals as goal

pub returns : goal.returns
returns g c = c.self.invariant.counted
    ∙ sym (len_of_rows g.met.K.TableKey.is_cmp c.self.inside.slots c.args.self.now c.self.view_is c.self.invariant.rise)
