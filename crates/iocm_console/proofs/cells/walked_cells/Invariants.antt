-- The cells so far, each with a device that its own is like.
use Rattle.std.proofs.Common.{◌≡◌, ◌++◌}
use Rattle.iocm_console.specs.Alike.{AreCompared, devices_of}
use Rattle.iocm_console.specs.Lines.{celled}
use Rattle.iocm_console.proofs.cells.walked_cells.Given as goal

abbrev pub invariant-loop-cell : goal.invariant-loop-cell
invariant-loop-cell l = record {
  cells : celled l.cells.items ++ l.cell-iterator ≡ l.initial.cell-iterator;
  compared : AreCompared l.last l.cells.items;
  records : devices_of l.last ≡ l.config.records;
}
