-- The objects that a change adds, deletes or changes, each with its fields before and after.
use Rattle.std.specs.Prelude.{Bool, ◌&&◌, ◌∷◌, if◌then◌else◌, Option, None, Some, List, []}
use Rattle.std.specs.FinMap.{entries}
use Rattle.std.specs.List.{flat_map}
use Rattle.iocm_types.specs.declared.key.Key.{Key}
use Rattle.iocm_model.specs.Machine.Configuration.{Configuration}
use Rattle.iocm_model.specs.Machine.Record.{Rec}
use Rattle.iocm_difference.specs.Same.{same_names, same_record}
use Rattle.iocm_difference.specs.Walks.{Pair, pairs_of}
use Rattle.iocm_plan.specs.Objects.{is_added, is_deleted, is_changed, online_at}
use Rattle.iocm_objects.specs.declared.object.Change.{Change}
use Rattle.iocm_objects.specs.declared.object.Change.TheVariants.{Added, Deleted, Changed}
use Rattle.iocm_objects.specs.declared.object.Object.{Object}
use Rattle.iocm_objects.specs.Fields.{fields_in}
use Rattle.iocm_objects.specs.Told.{told_of}

-- an object with these records before and after stays as it is
abbrev pub is_same : Rec → Rec → Configuration → Configuration → Key → Bool
is_same a b c d key = same_record a b && same_names (online_at c key) (online_at d key)

-- what becomes of the object under a key; nothing where it stays as it is, or the key is that of an online pair
abbrev pub change_of : Configuration → Configuration → Key → Option Change
change_of c d key =
    if is_added c d key then Some Added else if is_deleted c d key then Some Deleted
    else if is_changed c d key then Some Changed else None

abbrev pub object : Configuration → Configuration → Key → Change → Object
object c d key change = record {
  key = key;
  change = change;
  before = fields_in c key;
  after = fields_in d key;
  told = told_of change (fields_in c key) (fields_in d key);
}

abbrev pub object_if : Configuration → Configuration → Key → Option Change → List Object
object_if c d key None = []
object_if c d key (Some change) = object c d key change ∷ []

abbrev pub objects_at : Configuration → Configuration → Key → List Object
objects_at c d key = object_if c d key (change_of c d key)

-- the objects that differ, in the order of keys
abbrev pub objects : Configuration → Configuration → List Object
objects c d = flat_map (λ (p : Pair). objects_at c d p.0) (pairs_of (entries c) (entries d))
