use Rattle.std.proofs.Common.{length}
use Rattle.iocm_console.specs.Alike.{ServeFor}
use Rattle.iocm_console.proofs.subsystem_cells.without_back.Given as goal

abbrev pub invariant-loop-last : goal.invariant-loop-last
invariant-loop-last l = ServeFor l.css l.rest l.cells

abbrev pub decreases-loop-last : goal.decreases-loop-last
decreases-loop-last l = length l.rest
