-- The text of a change deck as a change tree, and the heaps in which it is read.
use Rattle.std.specs.Prelude.{◌≡◌, ◌⊎◌, ℕ, List, Option, None, Some, Result}
use Rattle.iocm_types.specs.declared.fault.Fault.{Fault}
use Rattle.iocm_types.specs.Each.{each}
use Rattle.iocm_tree.specs.Trees.{CarriedTree}
use Rattle.iocm_tree_writer.specs.Again.{tree_in}

-- the change trees of several change decks, or the first fault of the first that has one
abbrev pub trees_in : List (List ℕ) → Result (List CarriedTree) Fault
trees_in changes = each (λ place change. tree_in change) 0 changes

-- the last heap, in bytes: the one that is named, or the largest
abbrev pub last_heap : Option ℕ → ℕ
last_heap (Some size) = size
last_heap None = 16777216

-- a heap is the last one, or there is none yet
abbrev pub IsLast : Option ℕ → ℕ → Type 0
IsLast named heap = (heap ≡ last_heap named) ⊎ (heap ≡ 0)
