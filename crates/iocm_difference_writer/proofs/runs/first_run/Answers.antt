use Rattle.std.proofs.Common.{length, ◌≤◌, ◌∙◌, sym, arith}
use Rattle.iocm_difference_writer.proofs.Splitting.{longer, ends, stops}
use Rattle.iocm_difference_writer.proofs.runs.first_run.Goals as goal

pub loop-count-preserved : goal.loop-count-preserved
loop-count-preserved g c =
    longer c.args.edits.now c.loop-count.count c.index-edits-count.result c.index-edits-count-in-loop-count.result
    c.loop-count.invariant c.loop-count-test.true
    c.index-edits-count.is c.index-edits-count-in-loop-count.is (sym c.goes_with.ensures ∙ c.if-goes_with.true)

pub returns-else-goes_with-clause-run : goal.returns-else-goes_with-clause-run
returns-else-goes_with-clause-run g c =
    stops c.args.edits.now c.loop-count.count c.index-edits-count.result c.index-edits-count-in-loop-count.result
    c.loop-count.invariant c.loop-count-test.true
    c.index-edits-count.is c.index-edits-count-in-loop-count.is (sym c.goes_with.ensures ∙ c.if-goes_with.false)

pub returns-after-loop-count-clause-run : goal.returns-after-loop-count-clause-run
returns-after-loop-count-clause-run g c =
    let past : length c.args.edits.now ≤ c.loop-count.count = omega (arith, c.loop-count-test.false) in
    ends c.args.edits.now c.loop-count.count c.loop-count.invariant past
