-- The cells so far, each with a device that its own is like.
use Rattle.std.proofs.Common.{◌≡◌, take}
use Rattle.iocm_console.specs.Alike.{AreCompared, devices_of}
use Rattle.iocm_console.specs.Lines.{celled}
use Rattle.iocm_console.proofs.cells.listed_cells.Given as goal

abbrev pub invariant-loop-row : goal.invariant-loop-row
invariant-loop-row l = record {
  cells : celled l.cells.items ≡ take l.row-index l.taken;
  compared : AreCompared l.last l.cells.items;
  records : devices_of l.last ≡ l.config.records;
}
