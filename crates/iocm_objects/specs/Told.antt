-- What is told of an object: of one that is added or deleted its fields, of one that is changed the fields that differ.
-- Bytes by their codes: 32 is a blank.
use Rattle.std.specs.Prelude.{ℕ, is_some, ◌==◌, if◌then◌else◌, Option, None, Some, List, [], ◌∷◌, ◌++◌}
use Rattle.std.specs.List.{flat_map}
use Rattle.std.specs.Str.{bytes_eq}
use Rattle.iocm_objects.specs.declared.field.Field.{Field}
use Rattle.iocm_objects.specs.declared.field.Value.{Value}
use Rattle.iocm_objects.specs.declared.field.Value.TheVariants as value
use Rattle.iocm_objects.specs.declared.object.Change.{Change}
use Rattle.iocm_objects.specs.declared.object.Change.TheVariants as change
use Rattle.iocm_objects.specs.declared.told.Told.{Told}
use Rattle.iocm_objects.specs.declared.told.Told.TheVariants as told
use Rattle.iocm_objects.specs.Differing.{arrow, change_text}
use Rattle.iocm_objects.specs.ToldPaths.{told_paths, words}
use Rattle.iocm_objects.specs.Values.{absent_text, use_text, value_text}

-- ---- an object that is added or deleted

-- a field alone: NAME VALUE. How images use a path needs no name, and an access list of those that are online isn't told.
abbrev pub named : List ℕ → Value → List ℕ
named name v = name ++ (32 ∷ value_text v)

abbrev pub alone_value : List ℕ → Value → List Told
alone_value name (value.Use way) = words name (use_text way) ∷ []
alone_value name (value.AccessOnline names) = []
alone_value name (value.Address address) = told.Address address ∷ []
alone_value name v = words name (named name v) ∷ []

abbrev pub told_alone : Field → List Told
told_alone f = alone_value f.name f.value

-- ---- an object that is changed

-- the value of the first field of a name
abbrev pub value_under : List ℕ → List Field → Option Value
value_under name [] = None
value_under name (f ∷ fs) = if bytes_eq f.name name then Some f.value else value_under name fs

-- values that are printed alike don't differ
abbrev pub differing : List ℕ → Value → Value → List Told
differing name old new =
    if bytes_eq (value_text old) (value_text new) then [] else words name (change_text name old new) ∷ []

abbrev pub told_addresses : ℕ → ℕ → List Told
told_addresses old new = if old == new then [] else told.OtherAddress old new ∷ []

-- a field that is there before and after
abbrev pub told_between : List ℕ → Value → Value → List Told
told_between name (value.Paths old) (value.Paths new) = told_paths old new
told_between name (value.AccessOnline old) (value.AccessOnline new) = []
told_between name (value.Address old) (value.Address new) = told_addresses old new
told_between name old new = differing name old new

-- a field that is there before
abbrev pub told_if : List ℕ → Value → Option Value → List Told
told_if name old (Some new) = told_between name old new
told_if name old None = words name (arrow name (value_text old) (absent_text old)) ∷ []

abbrev pub told_kept : List Field → Field → List Told
told_kept after f = told_if f.name f.value (value_under f.name after)

-- a field that is there after alone
abbrev pub new_value : List Field → List ℕ → Value → List Told
new_value before name v =
    if is_some (value_under name before) then []
    else words name (arrow name (absent_text v) (value_text v)) ∷ []

abbrev pub told_new : List Field → Field → List Told
told_new before f = new_value before f.name f.value

-- first the fields of before, then those that came
abbrev pub told_changed : List Field → List Field → List Told
told_changed before after = flat_map (told_kept after) before ++ flat_map (told_new before) after

abbrev pub told_of : Change → List Field → List Field → List Told
told_of change.Added before after = flat_map told_alone after
told_of change.Deleted before after = flat_map told_alone before
told_of change.Changed before after = told_changed before after
