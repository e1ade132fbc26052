-- The rows so far, and those of the places that are left, are all.
use Rattle.iocm_numbers.proofs.Restored.{IsListing}
use Rattle.iocm_numbers.proofs.numbers.Numbers.numbers_at.Given as goal

abbrev pub invariant-loop-place : goal.invariant-loop-place
invariant-loop-place g l = IsListing l.self.numbers l.places l.place-index l.rows.items
