use denote.Param.Send.{sendable}
use Rattle.std.proofs.Crossing as crossing
use Rattle.std.proofs.Crossing.{crosses}
use Rattle.std.proofs.Common.{◌≡◌, ◌∙◌, ap, subst}
use Rattle.iocm_core.specs.declared.call.Call.{Call}
use Rattle.iocm_queue.specs.Ends.{Sending, Taking}
use Rattle.iocm_queue.specs.Taken.{lines_of}
use Rattle.iocm_rounds.proofs.Rounds.{office_is}
use Rattle.iocm_core.proofs.Sends.{call_send}
use Rattle.iocm_queue.proofs.worker.Worker.TheSendSync as worker
use Rattle.iocm_system.proofs.Sends.{caller_send, system_sync}
use Rattle.iocm_rounds.proofs.Sends.{work_send}
use Rattle.iocm_rounds.proofs.office.run_office.Goals as goal

pub join-worked-requires-send-F : goal.join-worked-requires-send-F
join-worked-requires-send-F g c κs within =
    search (
      caller_send,
      worker.the_send,
      call_send,
      system_sync,
      crossing.send,
      crossing.sync,
      c.type_bounds,
      crosses,
      sendable,
    ) depth 40

pub join-worked-requires-send-A : goal.join-worked-requires-send-A
join-worked-requires-send-A g c κs within = search (work_send, crosses, sendable) depth 20

-- once both operators are settled, what the worker took of each is what it sent
pub returns : goal.returns
returns g c =
    let worked = c.join-worked.result.0 in
    let sent = c.join-worked.result.1 in
    let first = c.join-worked.ensures.second.of_first.number
    ∙ ap (λ (s : Sending Call). s.number) c.requires.queue.first_is in
    let second = c.join-worked.ensures.second.of_second.number
    ∙ ap (λ (s : Sending Call). s.number) c.requires.queue.second_is in
    office_is c.args.task.p.items c.args.task.q.items sent.p.left.items sent.q.left.items c.args.task.queue.0
    c.args.task.queue.1 sent.p.done sent.q.done c.args.task.queue.2 worked.worker
    c.args.task.caller worked.caller worked.first.items worked.second.items c.gate_met-gated.result worked.stopped
    c.graver.result c.join-worked.ensures.second
    c.join-worked.ensures.first
    (subst (λ n. lines_of n worked.worker.taken ≡ sent.p.done.sent) first c.settle.ensures.all)
    (subst (λ n. lines_of n worked.worker.taken ≡ sent.q.done.sent) second
    (subst (λ (w : Taking Call). lines_of sent.q.done.number w.taken ≡ sent.q.done.sent) c.settle.ensures.same
    c.settle-2.ensures.all))
    c.gate_met-gated.ensures.none c.gate_met-gated.ensures.some c.graver.ensures
