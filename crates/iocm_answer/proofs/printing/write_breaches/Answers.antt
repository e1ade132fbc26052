use Rattle.std.proofs.Common.{refl}
use Rattle.iocm_console.proofs.Printing.{writes_as, writes_nothing, writes_then}
use Rattle.iocm_model.specs.Rules.FirstBreach.{Breach}
use Rattle.iocm_console.specs.Refusal.{of_breach}
use Rattle.iocm_answer.specs.Manner.{refusal_in}
use Rattle.iocm_reports.proofs.Printed.{text_more}
use Rattle.iocm_answer.proofs.printing.write_breaches.Goals as goal

pub loop-breach-init : goal.loop-breach-init
loop-breach-init g c = writes_nothing refl

pub loop-breach-preserved : goal.loop-breach-preserved
loop-breach-preserved g c = writes_as (writes_then c.loop-breach.invariant c.in_ok-write_breach.ensures)
    (text_more (λ (b : Breach). refusal_in c.args.manner (of_breach b)) c.args.breaches.now c.loop-breach.breach-index
    c.breach-item.result c.loop-breach-test.true c.breach-item.is)
