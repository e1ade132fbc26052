-- The cells so far, each with its device, and those that are left, which stand together.
use Rattle.std.proofs.Common.{◌≡◌, ◌++◌}
use Rattle.std.specs.List.{All}
use Rattle.iocm_model.specs.Machine.Configuration.{lookup_of}
use Rattle.iocm_seats.specs.Taken.{cells_in, taken_of, IsTaken}
use Rattle.iocm_seats.proofs.CellsTogether.{IsPast}
use Rattle.iocm_seats.proofs.Together.{StandTogether}
use Rattle.iocm_seats.proofs.subsystem_cells.subsystem_cells.Given as goal

abbrev pub invariant-loop-cell : goal.invariant-loop-cell
invariant-loop-cell g l = record {
  cells : taken_of l.cells.items ++ cells_in l.css l.cell-iterator ≡ cells_in l.css l.initial.cell-iterator;
  together : StandTogether (IsPast l.css) (cells_in l.css) l.cell-iterator;
  devices : All (IsTaken (lookup_of l.config.records)) l.cells.items;
  same : l.devices ≡ l.config.records;
}
