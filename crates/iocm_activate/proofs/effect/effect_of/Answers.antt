-- Where a log tells of one edit, its effect is that of this edit.
use Rattle.std.proofs.Common.{sym, ap, subst, ◌∙◌}
use Rattle.std.proofs.lemmas.Result.{IfOk-weaker}
use Rattle.iocm_model.specs.Change.Effect.{values_in}
use Rattle.iocm_activate.specs.OnlyEdit.{cells_of_one}
use Rattle.iocm_activate.specs.Told.{HaveLedTo}
use Rattle.iocm_activate.proofs.OnlyEdit.{cells_of_log, one_item, tells_of_one}
use Rattle.iocm_activate.proofs.effect.effect_of.Goals as goal

pub effect_of_one-requires : goal.effect_of_one-requires
effect_of_one-requires c =
    let one = sym c.as_slice.ensures.value
    ∙ one_item c.as_slice.result.now c.only-item.result c.in-len1.len_at_least c.in-len1.len_below c.only-item.is in
    record {
      told = tells_of_one c.only-item.result c.args.plant.now.state
          (subst (λ ds. HaveLedTo ds c.args.plant.now.state) one c.requires.told);
    }

pub returns-in-len1 : goal.returns-in-len1
returns-in-len1 c =
    let one = sym c.as_slice.ensures.value
    ∙ one_item c.as_slice.result.now c.only-item.result c.in-len1.len_at_least c.in-len1.len_below c.only-item.is in
    IfOk-weaker c.effect_of_one.result _ _
    (λ e is. is ∙ ap (λ keys. values_in c.args.plant.now.state (cells_of_one keys c.only-item.result.touched))
    c.as_slice-in-len1.ensures.value
    ∙ ap (values_in c.args.plant.now.state) (cells_of_log c.args.log.now c.only-item.result one))
    c.effect_of_one.ensures
