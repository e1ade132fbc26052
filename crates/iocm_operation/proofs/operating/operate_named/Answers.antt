-- The system is closed once the last round was run.
use Rattle.std.proofs.Common.{ap, subst, IfOk}
use Rattle.std.specs.Prelude.{◌≡◌}
use Rattle.iocm_system.specs.Sights.{Sight}
use Rattle.iocm_operation.specs.Answering.{answers_at}
use Rattle.iocm_operation.specs.Asked.{trees_in}
use Rattle.iocm_operation.proofs.Ending.{operation_is}
use Rattle.iocm_operation.proofs.operating.operate_named.Goals as goal

pub returns-in-Ok : goal.returns-in-Ok
returns-in-Ok g c =
    let done = c.in_ok-caller.field-0 in
    let closed = c.close-in-Ok in
    operation_is c.args.core c.in-Ok.core (trees_in c.args.trees.now) c.args.rounds.now c.open-system.result.1
    done.caller done.places.items closed.result
    c.answered.result (ap (λ (s : Sight). s.origin) c.open-system.ensures.caller) c.in_ok-caller.ensures
    c.in-Ok.ensures.opening c.in-Ok.ensures.legal c.in-Ok.ensures.all closed.ensures.state closed.ensures.history
    closed.ensures.entries
    c.answered.ensures.closed
    (subst (λ ks. IfOk c.answered.result (λ o. o.answers.items ≡ answers_at closed.result.trace.entries.items ks))
    c.deref.ensures.value c.answered.ensures.answers)
