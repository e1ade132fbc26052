-- Who names whom: the namings of a record, the set of namings that an index holds, and the users of
-- a thing.
use Rattle.std.specs.Prelude.{◌≡◌, Bool, List, [], ◌∷◌, map, filter, if◌then◌else◌}
use Rattle.std.specs.List.{AllByRecursion, list_any}
use Rattle.std.specs.Ordering.{eq_by_cmp}
use Rattle.std.specs.FinMap.{FinMap, entries, contains_key}
use Rattle.iocm_types.specs.declared.key.Key.{Key}
use Rattle.iocm_types.specs.declared.named.Named.{Named}
use Rattle.iocm_types.specs.declared.naming.Naming.{Naming}
use Rattle.iocm_types.specs.Naming.{named_cmp, naming_cmp}
use Rattle.iocm_model.specs.Machine.Record.{Rec, key_of}
use Rattle.iocm_model.specs.Machine.Naming.{named_by}
use Rattle.iocm_table.specs.Slots.{Stored, rows, HasPlace}

-- that something is named, by a record of this key
abbrev pub naming : Key → Named → Naming
naming user named = record { named = named; user = user }

-- the namings of a record: of each thing that it names
abbrev pub namings_of : Rec → List Naming
namings_of r = map (naming (key_of r)) (named_by r)

-- a naming is one of a record's
abbrev pub is_naming_of : Rec → Naming → Bool
is_naming_of r n = list_any (eq_by_cmp naming_cmp n) (namings_of r)

-- a naming as a row of a table
abbrev pub as_row : Naming → Naming × Unit {0}
as_row n = (n, tt)

-- a set of namings
abbrev pub Namings : Type 0
Namings = FinMap naming_cmp (Unit {0})

-- a naming is in an index
abbrev pub is_linked : Stored Naming (Unit {0}) → Naming → Bool
is_linked t n = contains_key (rows naming_cmp t) n

-- the keys of the records that name a thing, in order
abbrev pub users_in : Named → Namings → List Key
users_in named m = map (λ e. e.0.user) (filter (λ e. eq_by_cmp named_cmp named e.0.named) (entries m))

-- of namings in order, the keys of those at the front that are of this thing
abbrev pub users_in_front : Named → List (Naming × Unit {0}) → List Key
users_in_front named [] = []
users_in_front named (e ∷ es) = if eq_by_cmp named_cmp named e.0.named then e.0.user ∷ users_in_front named es else []

-- these namings have places
abbrev pub HavePlaces : Stored Naming (Unit {0}) → List Naming → Type 0
HavePlaces t ns = AllByRecursion (HasPlace naming_cmp t) ns

-- two sets in which the same namings are, are the same set
abbrev pub AreTheirNamings : Type 0
AreTheirNamings = (a b : Namings) → ((n : Naming) → contains_key a n ≡ contains_key b n) → a ≡ b
