-- Finite maps in which cells are overwritten, and where two of them differ.
use Rattle.std.specs.Prelude.{Bool, not, Option, None, Some, List, [], ◌∷◌, ◌++◌, map, filter}
use Rattle.std.specs.Option.{option_eq}
use Rattle.std.specs.declared.cmp.Ordering.{Ordering}
use Rattle.std.specs.FinMap.{FinMap, get, insert, remove, entries, keys, from_entries}

module _ {K X : Type 0} {R : K → K → Ordering} where
  -- a map with this at a key: a value, or none
  abbrev pub with_value : FinMap R X → K → Option X → FinMap R X
  with_value m key (Some x) = insert m key x
  with_value m key None = remove m key

  -- a map with these cells overwritten, each by a value or by none; of one key the first counts
  abbrev pub with_cells : List (K × Option X) → FinMap R X → FinMap R X
  with_cells [] m = m
  with_cells (w ∷ ws) m = with_value (with_cells ws m) w.0 w.1

  -- what a map has at these keys, absent included
  abbrev pub cells_at : FinMap R X → List K → FinMap R (Option X)
  cells_at m ks = from_entries (map (λ key. (key, get m key)) ks)

  -- the keys at which two maps differ, in order
  abbrev pub differing : (X → X → Bool) → FinMap R X → FinMap R X → List K
  differing same m n =
      filter (λ key. not (option_eq same (get m key) (get n key)))
      (keys (from_entries {R = R} (entries m ++ entries n)))
