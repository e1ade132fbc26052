-- The fields of a record, in the order in which they are told.
use Rattle.std.specs.Prelude.{ℕ, Option, None, Some, if◌then◌else◌, List, [], ◌∷◌, ◌++◌, map, codes}
use Rattle.std.specs.Fmt.{decimal}
use Rattle.std.specs.FinMap.{get}
use Rattle.iocm_types.specs.declared.key.Key.{Key}
use Rattle.iocm_types.specs.declared.key.Key.TheVariants as key
use Rattle.iocm_types.specs.Print.{hex2}
use Rattle.iocm_model.specs.Machine.Configuration.{Configuration}
use Rattle.iocm_model.specs.Machine.Record.{Rec, PathRecord, UnitRecord, DeviceRecord, id, resource, image, limit, path}
use Rattle.iocm_model.specs.Machine.Record.{unit, device, online}
use Rattle.iocm_values.specs.NameSet.{name_set}
use Rattle.iocm_words.specs.Ranges.{range_word}
use Rattle.iocm_words.specs.Words.{comma_word}
use Rattle.iocm_difference.specs.Same.{same_names}
use Rattle.iocm_plan.specs.Objects.{online_at}
use Rattle.iocm_objects.specs.declared.field.Field.{Field}
use Rattle.iocm_objects.specs.declared.field.Value.{Value}
use Rattle.iocm_objects.specs.declared.field.Value.TheVariants as value
use Rattle.iocm_objects.specs.Carried.{carried_fields, field}
use Rattle.iocm_sight.specs.Linked.{linked_paths}

-- the access list of a path: it may name just those images that are online
abbrev pub access_value : List (List ℕ) → List (List ℕ) → Value
access_value access names = if same_names access names then value.AccessOnline access else value.Access access

-- the images that may use a path: those of its access and its candidate list together
abbrev pub users_of : PathRecord → List (List ℕ)
users_of p = name_set (p.access ++ p.candidates)

abbrev pub user_fields : PathRecord → List Field
user_fields p = field (codes "candidates") (value.Names (users_of p)) ∷ []

abbrev pub access_fields : List (List ℕ) → List (List ℕ) → List Field
access_fields access names = field (codes "access") (access_value access names) ∷ []

-- a path to which these images are online
abbrev pub path_fields : PathRecord → List (List ℕ) → List Field
path_fields p names =
    field (codes "use") (value.Use p.kind) ∷ field (codes "online") (value.Names names)
    ∷ (user_fields p ++ access_fields p.access names)

abbrev pub cuadd_fields : Option ℕ → List Field
cuadd_fields None = []
cuadd_fields (Some cuadd) = field (codes "CUADD") (value.Text (hex2 cuadd)) ∷ []

abbrev pub unit_fields : UnitRecord → List Field
unit_fields u =
    field (codes "PATH") (value.Paths (linked_paths u))
    ∷ field (codes "UNITADD") (value.Text (comma_word (map range_word u.ranges))) ∷ cuadd_fields u.cuadd

abbrev pub candidate_fields : Option (List (List ℕ)) → List Field
candidate_fields None = []
candidate_fields (Some names) = field (codes "PARTITION") (value.Candidates names) ∷ []

abbrev pub device_fields : DeviceRecord → List Field
device_fields d =
    field (codes "CUNUMBR") (value.Units d.units) ∷ field (codes "UNITADD") (value.Address d.unit_address)
    ∷ candidate_fields d.candidates

-- those of a whole record, with what its statement carries along
abbrev pub name_fields : List ℕ → List Field
name_fields name = field (codes "name") (value.Text name) ∷ []

abbrev pub limit_fields : ℕ → List Field
limit_fields number = field (codes "limit") (value.Text (decimal number)) ∷ []

abbrev pub all_path_fields : Configuration → PathRecord → List Field
all_path_fields c p = path_fields p (online_at c (key.Path p.css p.number)) ++ carried_fields p.carried

abbrev pub all_unit_fields : UnitRecord → List Field
all_unit_fields u = unit_fields u ++ carried_fields u.carried

abbrev pub all_device_fields : DeviceRecord → List Field
all_device_fields d = device_fields d ++ carried_fields d.carried

-- the fields of a record of a configuration; an online pair is told with its path
abbrev pub fields_of : Configuration → Rec → List Field
fields_of c (id carried) = carried_fields carried
fields_of c (resource carried) = carried_fields carried
fields_of c (image r) = name_fields r.name
fields_of c (limit r) = limit_fields r.limit
fields_of c (path r) = all_path_fields c r
fields_of c (unit r) = all_unit_fields r
fields_of c (device r) = all_device_fields r
fields_of c (online r) = []

-- those of the record under a key, if there is one
abbrev pub fields_if : Configuration → Option Rec → List Field
fields_if c None = []
fields_if c (Some r) = fields_of c r

abbrev pub fields_in : Configuration → Key → List Field
fields_in c key = fields_if c (get c key)
