-- The refusal that is due, or lack of memory.
use Rattle.std.proofs.Common.{Err, inl, inr, ap, ◌∙◌}
use Rattle.iocm_model.specs.Change.Meaning.{meaning}
use Rattle.iocm_tree.specs.Trees.{plain_tree, tree_of}
use Rattle.iocm_console.specs.Refusal.{of_change}
use Rattle.iocm_answer.specs.Answer.{printed}
use Rattle.iocm_answer.specs.Commands.Apply.{reported}
use Rattle.iocm_answer.specs.Manner.{in_form}
use Rattle.iocm_answer.proofs.Opened.{due_told}
use Rattle.iocm_answer.proofs.Told.{handed_on}
use Rattle.iocm_answer.proofs.applying.make_change.Goals as goal

pub returns-in_err-made : goal.returns-in_err-made
returns-in_err-made c input =
    let m = in_form c.args.form input in
    let why = c.in_err-made.field-0.0 in
    let residual = c.from_residual-in_err-made in
    let is = handed_on residual.result (of_change why) residual.ensures in
    elim (due_told m (λ r. reported m c.args.asked.now.report c.args.asked.now.wanted r.edits c.args.plant.state r.state)
    (meaning (plain_tree (tree_of c.args.tree.now)) c.args.plant.state) why c.in_err-made.ensures.refused) [
      | inl e ↦ inl (ap (printed m) is ∙ e)
      | inr e ↦ inr (is ∙ ap Err e)
    ]
