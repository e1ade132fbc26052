use Rattle.std.proofs.Common.{sym, ap, ◌∙◌}
use Rattle.iocm_table.specs.Slots.{present}
use Rattle.iocm_table.proofs.Lookups.{entries_of_rows}
use Rattle.iocm_table.proofs.Walking.{filter_true, fits}
use Rattle.iocm_table.proofs.table.Table.walk.Goals as goal

pub returns-clause-entries : goal.returns-clause-entries
returns-clause-entries g c = ap present (c.range.ensures.between tt ∙ filter_true c.self.inside.slots.entries)
    ∙ sym (entries_of_rows g.met.K.TableKey.is_cmp c.self.inside.slots c.args.self.now c.self.view_is
    c.self.invariant.rise)

pub returns-clause-fits : goal.returns-clause-fits
returns-clause-fits g c = fits c.range.result c.range.ensures.fits
