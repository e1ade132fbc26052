use Rattle.std.proofs.Common.{refl}
use Rattle.iocm_console.proofs.Printing.{writes_as, writes_nothing, writes_then}
use Rattle.iocm_explain.specs.Explain.{told_below}
use Rattle.iocm_explain.proofs.Below.{one_more}
use Rattle.iocm_explain.proofs.printing.write_below.Goals as goal

pub loop-rule-init : goal.loop-rule-init
loop-rule-init g c = writes_nothing refl

pub loop-rule-preserved : goal.loop-rule-preserved
loop-rule-preserved g c = writes_as
    (writes_then c.loop-rule.invariant (writes_then c.in_ok-bytes.ensures c.in_ok-write_entry.ensures))
    (one_more told_below c.args.rules.now c.loop-rule.rule-index _ c.loop-rule-test.true)
