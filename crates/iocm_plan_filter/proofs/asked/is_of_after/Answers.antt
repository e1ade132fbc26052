-- The images after are those that are asked for.
use Rattle.std.proofs.Common.{ap, ◌∙◌}
use Rattle.std.specs.List.{list_any}
use Rattle.iocm_derive.specs.Sighted.{Sighted}
use Rattle.iocm_model.specs.Machine.Configuration.{lookup_of}
use Rattle.iocm_plan_filter.specs.Connected.{is_of_image}
use Rattle.iocm_plan_filter.proofs.Sights.{of_sights}
use Rattle.iocm_plan_filter.proofs.asked.is_of_after.Goals as goal

pub returns : goal.returns
returns c = let asked = c.args.asked.now in
    let config = asked.new.now.records in
    c.is_of_any.ensures
    ∙ ap (list_any (λ (s : Sighted). is_of_image (lookup_of config) s.image c.args.key.now))
    (c.deref.ensures.value ∙ asked.images_after)
    ∙ of_sights asked.filters.now config c.args.key.now
