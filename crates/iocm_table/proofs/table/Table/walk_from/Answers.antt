use Rattle.std.proofs.Common.{◌&&◌, true, filter, ap, ◌∙◌}
use Rattle.std.specs.Ordering.{is_le}
use Rattle.iocm_table.specs.Slots.{present}
use Rattle.iocm_table.proofs.Lookups.{rows_from_key}
use Rattle.iocm_table.proofs.Walking.{present_filter, and_true, fits}
use Rattle.iocm_table.proofs.table.Table.walk_from.Goals as goal

pub returns-clause-entries : goal.returns-clause-entries
returns-clause-entries g c = ap present (c.range.ensures.between tt)
    ∙ present_filter (λ q. is_le (g.K.Ord.cmp c.args.from.now q) && true) c.self.inside.slots.entries
    ∙ (λ i. filter (λ e. and_true (is_le (g.K.Ord.cmp c.args.from.now e.0)) i) (present c.self.inside.slots.entries))
    ∙ rows_from_key g.met.K.TableKey.is_cmp c.self.inside.slots c.args.self.now c.self.view_is c.self.invariant.rise
    c.args.from.now

pub returns-clause-fits : goal.returns-clause-fits
returns-clause-fits g c = fits c.range.result c.range.ensures.fits
