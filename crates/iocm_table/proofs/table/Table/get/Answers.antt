use Rattle.std.proofs.Common.{sym, ap, ◌∙◌}
use Rattle.std.specs.Option.{option_copied, option_flatten}
use Rattle.iocm_table.proofs.Lookups.{row_at}
use Rattle.iocm_table.proofs.table.Table.get.Goals as goal

pub returns-in_err-slot : goal.returns-in_err-slot
returns-in_err-slot g c =
    ap option_copied c.from_residual.ensures
    ∙ ap option_flatten (ap option_copied (sym c.in_err-slot.was) ∙ c.get.ensures.value)
    ∙ sym (row_at g.met.K.TableKey.is_cmp c.self.inside.slots c.args.self.now c.self.view_is c.self.invariant.rise
    g.met.K.Ord.total c.args.key.now)

pub returns : goal.returns
returns g c = c.as_ref.ensures.value ∙ ap option_flatten (ap option_copied (sym c.in_ok-slot.was) ∙ c.get.ensures.value)
    ∙ sym (row_at g.met.K.TableKey.is_cmp c.self.inside.slots c.args.self.now c.self.view_is c.self.invariant.rise
    g.met.K.Ord.total c.args.key.now)
