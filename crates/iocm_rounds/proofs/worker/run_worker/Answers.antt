use Rattle.std.proofs.Common.{List, [], refl, sym, ap, ◌∙◌, subst}
use Rattle.std.specs.Prelude.{None}
use Rattle.iocm_core.specs.declared.call.Call.{Call}
use Rattle.iocm_queue.specs.Ends.{Taking, takes_message}
use Rattle.iocm_queue.specs.Taken.{message_of}
use Rattle.iocm_queue.specs.declared.message.Message.{Message}
use Rattle.iocm_system.specs.declared.receipt.Receipt.{Receipt}
use Rattle.iocm_rounds.specs.Working.{IsWorked}
use Rattle.iocm_rounds.proofs.Working.{work_begins, work_past_end}
use Rattle.iocm_rounds.proofs.worker.run_worker.Goals as goal

pub loop-init : goal.loop-init
loop-init g c = (
  refl,
  refl,
  subst (λ (ms : List (Message Call)). IsWorked ms c.args.me c.args.me c.new.result.items c.new-2.result.items None)
      (sym c.requires.idle)
      (subst (λ (rs : List Receipt). IsWorked [] c.args.me c.args.me rs c.new-2.result.items None)
      (sym c.new.ensures.items)
      (subst (λ (rs : List Receipt). IsWorked [] c.args.me c.args.me [] rs None) (sym c.new-2.ensures.items)
      (work_begins c.args.me))),
)

pub loop-preserved-in-Line : goal.loop-preserved-in-Line
loop-preserved-in-Line g c =
    let worked = c.make.ensures.goes_on c.loop.work.worker.taken c.args.me c.loop.invariant.2 in
    let now = c.make.ensures.worker ∙ c.next-in-loop.ensures.taken
    ∙ ap (λ i. takes_message c.loop.work.worker (message_of i)) c.in-Line.is in (
      ap (λ (w : Taking Call). w.channel) now ∙ c.loop.invariant.0,
      worked.turn.tag,
      subst (λ (w : Taking Call).
          IsWorked w.taken c.args.me c.make.new.self.caller c.make.new.self.first.items c.make.new.self.second.items
          c.make.new.self.stopped)
          (sym now) worked,
    )

pub loop-preserved : goal.loop-preserved
loop-preserved g c =
    let worked = work_past_end c.loop.work.worker.taken c.in_default.field-0 c.args.me c.loop.work.caller
    c.loop.work.first.items c.loop.work.second.items
    c.loop.work.stopped c.loop.invariant.2 in
    let now = c.next-in-loop.ensures.taken
    ∙ ap (λ i. takes_message c.loop.work.worker (message_of i)) c.in_default.is in (
      ap (λ (w : Taking Call). w.channel) now ∙ c.loop.invariant.0,
      c.loop.invariant.1,
      subst (λ (w : Taking Call).
          IsWorked w.taken c.args.me c.loop.work.caller c.loop.work.first.items c.loop.work.second.items
          c.loop.work.stopped) (sym now) worked,
    )
