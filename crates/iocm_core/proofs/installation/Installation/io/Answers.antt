-- A step is held, or answered as the machine answers it.
use Rattle.std.proofs.Common.{refl, sym, ap}
use Rattle.iocm_types.specs.declared.answer.Answer.TheVariants as answers
use Rattle.iocm_model.specs.Operation.Step.{order}
use Rattle.iocm_core.proofs.Stepping.{held_answered, step_answered}
use Rattle.iocm_core.proofs.installation.Installation.io.Goals as goal

pub returns-then-holds-clause-answers : goal.returns-then-holds-clause-answers
returns-then-holds-clause-answers c = λ opening h it.
    let laws = c.journals_keep_to_histories.ensures in
    held_answered laws.others opening h c.args.self.now c.args.subchannel.now (order c.args.order) it
    (sym (c.if-holds.ensures opening h it))

pub returns-clause-answers : goal.returns-clause-answers
returns-clause-answers c = λ opening h it.
    let m = c.args.self.now in
    let laws = c.journals_keep_to_histories.ensures in
    step_answered c.steps_elsewhere_pass_a_stage.ensures laws.others opening h m
    (record m { plant = c.step.new.self }) c.args.subchannel.now (order c.args.order) it
    (sym (c.if-holds.ensures opening h it))
    c.step.ensures.state c.step.ensures.kept refl refl refl
    (answers.Io c.step.result) (ap answers.Io c.step.ensures.answer)
