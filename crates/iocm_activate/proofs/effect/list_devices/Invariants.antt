-- The number cells so far, with their devices.
use Rattle.std.proofs.Common.{◌≡◌, take, map}
use Rattle.std.specs.FinMap.{get}
use Rattle.iocm_model.specs.Machine.Numbering.{cells_of}
use Rattle.iocm_activate.proofs.effect.list_devices.Given as goal

abbrev pub invariant-loop-cell : goal.invariant-loop-cell
invariant-loop-cell l = l.listed.items
    ≡ map (λ cell. (cell, get (cells_of l.numbers.numbers) cell)) (take l.cell-index l.cells)
