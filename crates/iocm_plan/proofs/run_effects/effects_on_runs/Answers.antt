-- The effect on one more run.
use Rattle.std.proofs.Common.{◌+◌, ◌++◌, ◌∷◌, [], drop, append_assoc, sym, ap, ◌∙◌}
use Rattle.iocm_model.specs.Machine.Configuration.{lookup_of}
use Rattle.iocm_types.proofs.Lists.{drop-item}
use Rattle.iocm_plan.specs.Left.{effects_on_runs, left_between}
use Rattle.iocm_plan.specs.RunEffects.{side_by}
use Rattle.iocm_plan.proofs.RunSides.{side_is}
use Rattle.iocm_plan.proofs.run_effects.effects_on_runs.Goals as goal

pub loop-run-preserved : goal.loop-run-preserved
loop-run-preserved c =
    let w = c.args.filters.now in
    let left = effects_on_runs w c.args.is_lost (lookup_of c.args.old.now.records) (lookup_of c.args.new.now.records)
    c.args.image.now in
    let rest = left (drop (c.loop-run.run-index + 1) c.args.runs.now) in
    let told = c.left_between.ensures
    ∙ (λ z. left_between w c.args.is_lost c.run-item.result.first
    ((c.side_on-side.ensures.side ∙ ap (λ b. side_by b c.args.old.now.records c.run-item.result)
    c.loop-run.invariant.its_before ∙ side_is c.args.old.now.records c.args.image.now c.run-item.result) z)
    ((c.side_on-other.ensures.side ∙ ap (λ b. side_by b c.args.new.now.records c.run-item.result)
    c.loop-run.invariant.its_after ∙ side_is c.args.new.now.records c.args.image.now c.run-item.result) z)) in
    record {
      its_before = c.side_on-side.ensures.same ∙ c.loop-run.invariant.its_before;
      its_after = c.side_on-other.ensures.same ∙ c.loop-run.invariant.its_after;
      left = ap (λ es. es ++ rest) c.in_ok-push.ensures.items
          ∙ append_assoc c.loop-run.effects.items (c.left_between.result ∷ []) rest
          ∙ ap (λ e. c.loop-run.effects.items ++ e ∷ rest) told
          ∙ ap (λ rs. c.loop-run.effects.items ++ left rs)
          (sym (drop-item c.args.runs.now c.loop-run.run-index c.run-item.result c.loop-run-test.true c.run-item.is))
          ∙ c.loop-run.invariant.left;
    }
