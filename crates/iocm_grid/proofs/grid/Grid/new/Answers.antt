use Rattle.std.proofs.Common.{◌≡◌, true, false, is_some, sym, ap, subst, ◌∙◌}
use Rattle.std.specs.FinMap.{len-empty, get-empty}
use Rattle.iocm_types.specs.SubId.{sub_id_cmp}
use Rattle.iocm_grid.specs.Gridded.{IsCounted}
use Rattle.iocm_grid.proofs.grid.Grid.new.Goals as goal

pub invariant_of-result : goal.invariant_of-result
invariant_of-result g c = subst (λ levels. IsCounted levels 0) (sym c.new.ensures) (record {
  counted = sym (len-empty sub_id_cmp _);
  in_range = λ x has. let bad : false ≡ true = sym (ap is_some (get-empty sub_id_cmp x)) ∙ has in cc;
})
