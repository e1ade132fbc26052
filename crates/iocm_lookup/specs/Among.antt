-- The least of some keys, and records that can only be those at some keys.
use Rattle.std.specs.Prelude.{◌≡◌, Bool, true, false, if◌then◌else◌, List, [], ◌∷◌, Option, None, Some}
use Rattle.std.specs.List.{list_any}
use Rattle.std.specs.Option.{option_map_or}
use Rattle.std.specs.Ordering.{eq_by_cmp, is_lt}
use Rattle.iocm_types.specs.declared.key.Key.{Key}
use Rattle.iocm_types.specs.Key.{key_cmp}
use Rattle.iocm_model.specs.Machine.Record.{Rec}
use Rattle.iocm_model.specs.Machine.Configuration.{Configuration, Lookup, lookup_of}

-- the lesser of two keys
abbrev pub lesser : Option Key → Option Key → Option Key
lesser None b = b
lesser (Some a) None = Some a
lesser (Some a) (Some b) = if is_lt (key_cmp b a) then Some b else Some a

-- the least of what these give, and of a key
abbrev pub least_of : {A : Type 0} → (A → Option Key) → Option Key → List A → Option Key
least_of gives least [] = least
least_of gives least (x ∷ xs) = least_of gives (lesser least (gives x)) xs

-- a key is one of these
abbrev pub is_one_of : Key → List Key → Bool
is_one_of key keys = list_any (eq_by_cmp key_cmp key) keys

-- no record at another key is so
abbrev pub IsOnlyAt : List Key → Configuration → (Rec → Bool) → Type 0
IsOnlyAt keys c is_so = (key : Key) (r : Rec) → lookup_of c key ≡ Some r → is_so r ≡ true → is_one_of key keys ≡ true

-- whether the record at a key is so
abbrev pub is_so_at : (Rec → Bool) → Lookup → Key → Bool
is_so_at is_so c key = option_map_or is_so (c key) false

-- a key, if the record there is so
abbrev pub key_if : (Rec → Bool) → Lookup → Key → Option Key
key_if is_so c key = if is_so_at is_so c key then Some key else None
