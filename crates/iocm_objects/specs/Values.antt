-- The values of fields, and how each is printed.
-- Bytes by their codes: 44 is a comma.
use Rattle.std.specs.Prelude.{ℕ, ◌==◌, if◌then◌else◌, List, length, map, codes}
use Rattle.std.specs.List.{join_with_byte}
use Rattle.iocm_types.specs.declared.path_kind.PathKind.{PathKind}
use Rattle.iocm_types.specs.declared.path_kind.PathKind.TheVariants as kind
use Rattle.iocm_types.specs.Print.{hex2, hex4}
use Rattle.iocm_objects.specs.declared.field.Value.{Value}
use Rattle.iocm_objects.specs.declared.field.Value.TheVariants as value
use Rattle.iocm_objects.specs.Paths.{paths_text}

-- the word for nothing
abbrev pub none : List ℕ
none = codes "none"

-- how images use a path
abbrev pub use_text : PathKind → List ℕ
use_text kind.Dedicated = codes "DEDICATED"
use_text kind.Shared = codes "SHARED"
use_text kind.Reconfigurable = codes "REC"

-- items with commas between them, or a word where there are none
abbrev pub items_or : List ℕ → List (List ℕ) → List ℕ
items_or other items = if length items == 0 then other else join_with_byte 44 items

abbrev pub value_text : Value → List ℕ
value_text (value.Text text) = text
value_text (value.Use way) = use_text way
value_text (value.Names names) = items_or none names
value_text (value.Access names) = items_or none names
value_text (value.AccessOnline names) = items_or none names
value_text (value.Candidates names) = items_or (codes "0") names
value_text (value.Units units) = items_or none (map hex4 units)
value_text (value.Paths paths) = paths_text paths
value_text (value.Address address) = hex2 address

-- what stands for a field of this kind that isn't there
abbrev pub absent_text : Value → List ℕ
absent_text (value.Candidates names) = codes "all"
absent_text _ = none
