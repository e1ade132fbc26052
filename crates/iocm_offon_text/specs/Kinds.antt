-- The kinds of objects, by which they are told together: paths of one number are.
use Rattle.std.specs.Prelude.{Bool, true, false, ◌==◌}
use Rattle.iocm_types.specs.declared.key.Key.{Key}
use Rattle.iocm_types.specs.declared.key.Key.TheVariants as key
use Rattle.iocm_offon_text.specs.declared.kind.Kind.{Kind}
use Rattle.iocm_offon_text.specs.declared.kind.Kind.TheVariants as kind

abbrev pub kind_of : Key → Kind
kind_of (key.Image css mif) = kind.Image
kind_of (key.Path css number) = kind.Path number
kind_of (key.Unit number) = kind.Unit
kind_of (key.Device set number) = kind.Device
kind_of _ = kind.Other

abbrev pub is_same_kind : Kind → Kind → Bool
is_same_kind kind.Image kind.Image = true
is_same_kind (kind.Path number) (kind.Path another) = number == another
is_same_kind kind.Unit kind.Unit = true
is_same_kind kind.Device kind.Device = true
is_same_kind kind.Other kind.Other = true
is_same_kind _ _ = false

abbrev pub is_path : Kind → Bool
is_path (kind.Path number) = true
is_path _ = false

abbrev pub is_unit : Kind → Bool
is_unit kind.Unit = true
is_unit _ = false
