-- Cells in the order of their keys, each once, as a finite map. Cells in no such order give the empty
-- map.
use Rattle.std.specs.Prelude.{List}
use Rattle.std.specs.declared.cmp.Ordering.{Ordering}
use Rattle.std.specs.FinMap.{FinMap, from_sorted}

abbrev pub cells_in : {K X : Type 0} → (R : K → K → Ordering) → List (K × X) → FinMap R X
cells_in R cells = from_sorted {R = R} cells
