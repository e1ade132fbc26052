-- A key puts its edit to its pass, and at the end no key is left.
use Rattle.std.proofs.Common.{◌≡◌, sym, ap, ◌∙◌}
use Rattle.std.proofs.lemmas.Result.{IfOk-weaker}
use Rattle.std.specs.List.{filter_map}
use Rattle.iocm_difference.specs.Difference.{actions_between}
use Rattle.iocm_difference.specs.Met.{pair_met}
use Rattle.iocm_difference.specs.Passes.{passes_in, no_passes, joined}
use Rattle.iocm_difference.proofs.InPasses.{with_all, one_more, joined_all}
use Rattle.iocm_difference.specs.Walks.{action_at}
use Rattle.iocm_difference.proofs.Paired.{actions_listed}
use Rattle.iocm_difference.proofs.edits.difference.Goals as goal

pub loop-met-init : goal.loop-met-init
loop-met-init g c = (λ i. with_all (c.new-passes.ensures i) (filter_map action_at (c.new-merge.ensures i)))
    ∙ ap (with_all no_passes) (actions_listed c.args.old.now.records c.args.new.now.records)

pub loop-met-preserved : goal.loop-met-preserved
loop-met-preserved g c = ap (λ p. with_all p (filter_map action_at c.step.new.self)) c.in_ok-put_edit.ensures
    ∙ one_more (passes_in c.loop-met.passes) (action_at (pair_met c.in-Some.met)) (filter_map action_at c.step.new.self)
    ∙ sym (ap (λ pairs. with_all (passes_in c.loop-met.passes) (filter_map action_at pairs)) c.in-Some.ensures)
    ∙ c.loop-met.invariant

pub returns : goal.returns
returns g c =
    let between = actions_between c.args.old.now.records c.args.new.now.records in
    let all : passes_in c.loop-met.passes ≡ with_all no_passes between =
    sym (ap (λ pairs. with_all (passes_in c.loop-met.passes) (filter_map action_at pairs)) c.in_default.ensures.0)
    ∙ c.loop-met.invariant in
    IfOk-weaker c.joined.result _ _ (λ es is. is ∙ ap joined all ∙ joined_all between) c.joined.ensures
