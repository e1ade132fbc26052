-- How many objects of a kind are added, deleted or changed.
use Rattle.std.specs.Prelude.{ℕ, Bool, true, false, ◌&&◌, List, filter, length}
use Rattle.iocm_types.specs.declared.key.Key.{Key}
use Rattle.iocm_types.specs.declared.key.Key.TheVariants as key
use Rattle.iocm_objects.specs.declared.counts.ObjectKind.{ObjectKind}
use Rattle.iocm_objects.specs.declared.counts.ObjectKind.TheVariants as kind
use Rattle.iocm_objects.specs.declared.object.Change.{Change}
use Rattle.iocm_objects.specs.declared.object.Object.{Object}
use Rattle.iocm_objects.specs.Runs.{same_change}

-- the key is that of an object of a kind
abbrev pub is_of_kind : ObjectKind → Key → Bool
is_of_kind kind.Id key.Id = true
is_of_kind kind.Resource key.Resource = true
is_of_kind kind.Image (key.Image css mif) = true
is_of_kind kind.Limit (key.Limit css set) = true
is_of_kind kind.Path (key.Path css number) = true
is_of_kind kind.Unit (key.Unit number) = true
is_of_kind kind.Device (key.Device set number) = true
is_of_kind _ _ = false

abbrev pub is_counted : Change → ObjectKind → Object → Bool
is_counted c k o = same_change c o.change && is_of_kind k o.key

abbrev pub count_objects : Change → ObjectKind → List Object → ℕ
count_objects c k os = length (filter (is_counted c k) os)
