-- The reasons on one more run.
use Rattle.std.proofs.Common.{◌+◌, ◌++◌, drop, append_assoc, sym, ap, ◌∙◌}
use Rattle.iocm_types.proofs.Lists.{drop-item}
use Rattle.iocm_plan.specs.RunEffects.{side_by}
use Rattle.iocm_plan.proofs.RunSides.{side_is}
use Rattle.iocm_impact.specs.Gathered.{change}
use Rattle.iocm_offon.specs.Rerouted.{reasons_between, reasons_on, reasons_on_runs}
use Rattle.iocm_offon.proofs.rerouted.put_on_runs.Goals as goal

pub loop-run-preserved : goal.loop-run-preserved
loop-run-preserved c =
    let x = change c.args.filters.now c.args.is_lost c.args.old.now.records c.args.new.now.records in
    let i = c.args.image.now in
    let r = c.run-item.result in
    let rest = reasons_on_runs x (drop (c.loop-run.run-index + 1) c.args.runs.now) i in
    let told = c.in_ok-put_between.ensures
    ∙ (λ z. c.loop-run.reasons.items ++ reasons_between x.wanted x.is_lost i r
    ((c.side_on-side.ensures.side ∙ ap (λ b. side_by b c.args.old.now.records r)
    c.loop-run.invariant.its_before ∙ side_is c.args.old.now.records i.image r) z)
    ((c.side_on-other.ensures.side ∙ ap (λ b. side_by b c.args.new.now.records r)
    c.loop-run.invariant.its_after ∙ side_is c.args.new.now.records i.image r) z)) in
    record {
      its_before = c.side_on-side.ensures.same ∙ c.loop-run.invariant.its_before;
      its_after = c.side_on-other.ensures.same ∙ c.loop-run.invariant.its_after;
      left = ap (λ es. es ++ rest) told
          ∙ append_assoc c.loop-run.reasons.items (reasons_on x i r) rest
          ∙ ap (λ rs. c.loop-run.reasons.items ++ reasons_on_runs x rs i)
          (sym (drop-item c.args.runs.now c.loop-run.run-index r c.loop-run-test.true c.run-item.is))
          ∙ c.loop-run.invariant.left;
    }
