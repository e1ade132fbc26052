use Rattle.std.proofs.Common.{is_some, sym, ap, subst, ◌∙◌}
use Rattle.std.specs.FinMap.{contains_key}
use Rattle.iocm_grid.specs.Gridded.{HasPlace}
use Rattle.iocm_grid.proofs.Looking.{row_at, has_place, inner_some}
use Rattle.iocm_grid.proofs.grid.Grid.has_places.Goals as goal

pub returns : goal.returns
returns g c x has = subst (λ s. HasPlace s x) c.self.view_is (has_place c.self.inside.levels x
    (inner_some _ (sym (ap is_some (row_at c.self.inside.levels x)) ∙ ap (λ s. contains_key s.rows x) c.self.view_is
    ∙ has)))
