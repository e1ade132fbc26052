-- The cells so far, with those of the places that are left, are all.
use Rattle.iocm_numbers.proofs.CellsThere.{IsListingCells}
use Rattle.iocm_numbers.proofs.numbers.Numbers.list_cells.Given as goal

abbrev pub invariant-loop-place : goal.invariant-loop-place
invariant-loop-place g l = IsListingCells l.self.numbers l.places l.place-index l.fn.cells.items l.cells.items
