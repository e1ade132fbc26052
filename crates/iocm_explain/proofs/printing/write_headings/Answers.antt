use Rattle.std.proofs.Common.{refl}
use Rattle.iocm_console.proofs.Printing.{writes_as, writes_nothing, writes_then}
use Rattle.iocm_explain.specs.Printed.{heading_line}
use Rattle.iocm_explain.proofs.Below.{one_more}
use Rattle.iocm_explain.proofs.printing.write_headings.Goals as goal

pub loop-rule-init : goal.loop-rule-init
loop-rule-init g c = writes_nothing refl

pub loop-rule-preserved : goal.loop-rule-preserved
loop-rule-preserved g c = writes_as (writes_then c.loop-rule.invariant c.in_ok-write_heading.ensures)
    (one_more heading_line c.args.rules.now c.loop-rule.rule-index _ c.loop-rule-test.true)
