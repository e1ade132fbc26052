use Rattle.std.proofs.Common.{sym, ◌∙◌}
use Rattle.iocm_console.proofs.Rows.{without_last}
use Rattle.iocm_console.proofs.subsystem_cells.without_back.Goals as goal

pub loop-last-preserved : goal.loop-last-preserved
loop-last-preserved c = without_last c.args.css c.in-Some.last.now c.loop-last.rest.now c.in-Some.more.now c.args.cells.now
    c.in-Some.ensures.cases.0 (sym c.eq.ensures ∙ c.if-eq.false) c.loop-last.invariant
