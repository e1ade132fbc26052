use Rattle.std.proofs.Common.{sym, ap, ◌∙◌, is_some}
use Rattle.iocm_table.proofs.Lookups.{row_at}
use Rattle.iocm_table.proofs.Writing.{place_of, inner_some}
use Rattle.iocm_table.proofs.table.Table.has_places.Goals as goal

pub returns : goal.returns
returns g c key has = place_of g.met.K.TableKey.is_cmp c.self.inside.slots c.args.self.now c.self.view_is key
    (inner_some _ (sym (ap is_some
    (row_at g.met.K.TableKey.is_cmp c.self.inside.slots c.args.self.now c.self.view_is c.self.invariant.rise
    g.met.K.Ord.total key)) ∙ has))
