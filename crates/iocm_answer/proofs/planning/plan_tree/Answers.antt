-- The refusal that is due, or lack of memory.
use Rattle.std.proofs.Common.{Err, inl, inr, ap, ◌∙◌}
use Rattle.iocm_model.specs.Change.Meaning.{meaning}
use Rattle.iocm_tree.specs.Trees.{plain_tree, tree_of}
use Rattle.iocm_console.specs.Refusal.{of_change}
use Rattle.iocm_plan_text.specs.Whole.{plan_text}
use Rattle.iocm_answer.specs.Answer.{printed}
use Rattle.iocm_answer.proofs.Opened.{due_told}
use Rattle.iocm_answer.proofs.Told.{handed_on}
use Rattle.iocm_answer.proofs.planning.plan_tree.Goals as goal

pub returns-in_err-make-clause-text : goal.returns-in_err-make-clause-text
returns-in_err-make-clause-text c m =
    let why = c.in_err-make.field-0.0 in
    let residual = c.from_residual-in_err-make in
    let is = handed_on residual.result (of_change why) residual.ensures in
    elim (due_told m (λ r. plan_text c.args.asked.now c.args.plant.now.state.config r.state.config)
    (meaning (plain_tree (tree_of c.args.tree.now)) c.args.plant.now.state) why c.in_err-make.ensures.refused) [
      | inl e ↦ inl (ap (printed m) is ∙ e)
      | inr e ↦ inr (is ∙ ap Err e)
    ]
