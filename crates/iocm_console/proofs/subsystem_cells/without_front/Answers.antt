use Rattle.std.proofs.Common.{sym, ◌∙◌}
use Rattle.iocm_console.proofs.Rows.{without_first}
use Rattle.iocm_console.proofs.subsystem_cells.without_front.Goals as goal

pub loop-first-preserved : goal.loop-first-preserved
loop-first-preserved c = without_first c.args.css c.in-Some.first.now c.loop-first.rest.now c.in-Some.more.now c.args.cells.now
    c.in-Some.ensures.cases.0 (sym c.eq.ensures ∙ c.if-eq.false) c.loop-first.invariant
