-- What is asked for is what the filters ask for of both configurations.
use Rattle.std.proofs.Common.{◌≡◌, ◌∙◌}
use Rattle.std.proofs.lemmas.Result.{IfOk-weaker}
use Rattle.iocm_plan_filter.specs.Left.{objects_asked}
use Rattle.iocm_plan_filter.proofs.left.objects_asked.Goals as goal

pub returns : goal.returns
returns c = let asked = c.in_ok-asked.asked in
    let objects = c.args.objects.items in
    IfOk-weaker c.objects_of.result
    (λ left. left.items
    ≡ objects_asked asked.filters.now asked.old.now.records asked.new.now.records objects)
    (λ left. left.items
    ≡ objects_asked c.args.filters.now c.args.old.now.records c.args.new.now.records objects)
    (λ left is. is ∙ (λ i. objects_asked (c.in_ok-asked.ensures.filters i) (c.in_ok-asked.ensures.old i)
    (c.in_ok-asked.ensures.new i) objects))
    c.objects_of.ensures
