use Rattle.std.proofs.Common.{◌∙◌, ◌≤◌, ◌++◌, length, ap, arith}
use Rattle.iocm_model.specs.Change.Edit.{Action, action_key}
use Rattle.iocm_difference_writer.specs.Written.{name_in}
use Rattle.iocm_difference_writer.proofs.Steps.{gives_more, gives_all}
use Rattle.iocm_difference_writer.proofs.statements.names_in.Goals as goal

pub loop-edit-preserved : goal.loop-edit-preserved
loop-edit-preserved g c =
    gives_more (λ (a : Action). name_in (action_key a)) c.args.run.now c.loop-edit.edit-index c.edit-item.result
    c.loop-edit.names.items c.put_name.new.names.items
    c.loop-edit-test.true c.edit-item.is c.loop-edit.invariant
    (c.in_ok-put_name.ensures ∙ ap (λ k. c.loop-edit.names.items ++ name_in k) c.key.ensures)

pub returns : goal.returns
returns g c =
    let past : length c.args.run.now ≤ c.loop-edit.edit-index = omega (arith, c.loop-edit-test.false) in
    gives_all (λ (a : Action). name_in (action_key a)) c.args.run.now c.loop-edit.edit-index c.loop-edit.names.items
    past c.loop-edit.invariant
