use Rattle.std.proofs.Common.{length}
use Rattle.iocm_console.specs.Alike.{ServeFor}
use Rattle.iocm_console.proofs.subsystem_cells.without_front.Given as goal

abbrev pub invariant-loop-first : goal.invariant-loop-first
invariant-loop-first l = ServeFor l.css l.rest l.cells

abbrev pub decreases-loop-first : goal.decreases-loop-first
decreases-loop-first l = length l.rest
