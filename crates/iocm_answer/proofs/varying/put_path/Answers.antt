use Rattle.std.proofs.Common.{◌++◌, List, append_assoc, ap, ◌∙◌, ℕ, take}
use Rattle.std.specs.List.{flat_map}
use Rattle.iocm_model.specs.Change.Edit.{Action}
use Rattle.iocm_record.specs.Meaning.{path_of}
use Rattle.iocm_difference_writer.specs.Runs.{actions_in}
use Rattle.iocm_reports.proofs.Printed.{text_more}
use Rattle.iocm_answer.specs.Commands.Vary.{pair_actions}
use Rattle.iocm_answer.proofs.varying.put_path.Goals as goal

pub loop-name-preserved : goal.loop-name-preserved
loop-name-preserved c =
    let task = c.args.task.now in
    let f : List ℕ → List Action =
    pair_actions task.to task.filters.now task.config.now.records (path_of c.args.path.now) in
    let names = c.deref-name-items.result.now in
    let before = actions_in c.args.edits.now.items in
    c.in_ok-put_pair.ensures
    ∙ ap (λ (l : List Action). l ++ f c.name-item.result) c.loop-name.invariant
    ∙ append_assoc before (flat_map f (take c.loop-name.name-index names)) (f c.name-item.result)
    ∙ ap (λ (l : List Action). before ++ l)
    (text_more f names c.loop-name.name-index c.name-item.result c.loop-name-test.true c.name-item.is)
