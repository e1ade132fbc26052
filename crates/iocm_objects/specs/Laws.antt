-- What holds of objects and their runs.
use Rattle.std.specs.Prelude.{◌≡◌, ◌↔◌, ◌||◌, Bool, true, List, map}
use Rattle.std.specs.List.{flat_map, list_any}
use Rattle.std.specs.List.Sorted.{IsStrictlySortedBy}
use Rattle.std.specs.Ordering.{eq_by_cmp}
use Rattle.iocm_types.specs.declared.key.Key.{Key}
use Rattle.iocm_types.specs.Key.{key_cmp}
use Rattle.iocm_model.specs.Machine.Configuration.{Configuration}
use Rattle.iocm_plan.specs.Objects.{is_added, is_deleted, is_changed}
use Rattle.iocm_objects.specs.declared.object.Object.{Object}
use Rattle.iocm_objects.specs.Objects.{objects}
use Rattle.iocm_objects.specs.Runs.{entries_in, entry_of, runs}

-- the objects of the runs, one by one, are the objects, each with what is told of it
abbrev pub RunsAreObjects : Type 0
RunsAreObjects = (os : List Object) → flat_map entries_in (runs os) ≡ map entry_of os

-- the objects stand in the order of their keys, each key once
abbrev pub ObjectsStandInOrder : Type 0
ObjectsStandInOrder = (c d : Configuration) → IsStrictlySortedBy key_cmp (map (λ (o : Object). o.key) (objects c d))

-- a key is among the objects
abbrev pub has_object : Key → List Object → Bool
has_object k os = list_any (λ (o : Object). eq_by_cmp key_cmp k o.key) os

-- exactly the keys are among them that are added, deleted or changed
abbrev pub ObjectsAreTheKeysThatDiffer : Type 0
ObjectsAreTheKeysThatDiffer = (c d : Configuration) (k : Key)
    → (has_object k (objects c d) ≡ true) ↔ ((is_added c d k || (is_deleted c d k || is_changed c d k)) ≡ true)
