use Rattle.std.proofs.Common.{refl}
use Rattle.std.proofs.lemmas.List.{get_or_default}
use Rattle.iocm_console.proofs.Printing.{writes_as, writes_nothing, writes_then}
use Rattle.iocm_types.specs.declared.fault.Fault.{Fault}
use Rattle.iocm_console.specs.Refusal.{of_fault}
use Rattle.iocm_answer.specs.Manner.{refusal_in}
use Rattle.iocm_reports.proofs.Printed.{text_more}
use Rattle.iocm_answer.proofs.printing.write_faults.Goals as goal

pub loop-one-init : goal.loop-one-init
loop-one-init g c = writes_nothing refl

pub loop-one-preserved : goal.loop-one-preserved
loop-one-preserved g c = writes_as (writes_then c.loop-one.invariant c.in_ok-write_fault.ensures)
    (text_more (λ (f : Fault). refusal_in c.args.manner (of_fault f)) c.args.faults.now c.loop-one.one-index
    _ c.loop-one-test.true
    (get_or_default c.args.faults.now c.loop-one.one-index _ _ c.loop-one-test.true))
