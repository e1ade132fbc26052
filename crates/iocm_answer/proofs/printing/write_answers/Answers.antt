use Rattle.std.proofs.Common.{refl}
use Rattle.iocm_console.proofs.Printing.{writes_as, writes_nothing, writes_then}
use Rattle.iocm_operation.specs.declared.answered.Answered.{Answered}
use Rattle.iocm_answer.specs.Manner.{answered_in}
use Rattle.iocm_reports.proofs.Printed.{text_more}
use Rattle.iocm_answer.proofs.printing.write_answers.Goals as goal

pub loop-answered-init : goal.loop-answered-init
loop-answered-init g c = writes_nothing refl

pub loop-answered-preserved : goal.loop-answered-preserved
loop-answered-preserved g c = writes_as (writes_then c.loop-answered.invariant c.in_ok-write_answered.ensures)
    (text_more (λ (a : Answered). answered_in c.args.manner.form a.line a.answer) c.args.answers.now c.loop-answered.answered-index
    c.answered-item.result c.loop-answered-test.true c.answered-item.is)
