use Rattle.std.proofs.Common.{sym, ap, ◌∙◌}
use Rattle.std.specs.FinMap.{get}
use Rattle.std.specs.Option.{option_copied, option_flatten}
use Rattle.iocm_grid.proofs.Looking.{row_at}
use Rattle.iocm_grid.proofs.grid.Grid.get.Goals as goal

pub returns-in_err-slot : goal.returns-in_err-slot
returns-in_err-slot g c =
    ap option_copied c.from_residual.ensures
    ∙ ap option_flatten (ap option_copied (sym c.in_err-slot.was) ∙ c.slot.ensures)
    ∙ sym (row_at c.self.inside.levels c.args.key.now) ∙ ap (λ s. get s.rows c.args.key.now) c.self.view_is

pub returns : goal.returns
returns g c = c.as_ref.ensures.value ∙ ap option_flatten c.in_ok-slot.ensures
    ∙ sym (row_at c.self.inside.levels c.args.key.now) ∙ ap (λ s. get s.rows c.args.key.now) c.self.view_is
