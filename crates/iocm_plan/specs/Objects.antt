-- The objects that a change adds, deletes or changes: the records but online pairs; to a path belong those that are
-- online at it.
use Rattle.std.specs.Prelude.{ℕ, Bool, true, false, not, ◌==◌, ◌&&◌, is_some, Option, None, Some, List, []}
use Rattle.std.specs.List.{filter_map}
use Rattle.std.specs.Option.{option_eq}
use Rattle.std.specs.FinMap.{get}
use Rattle.iocm_types.specs.declared.key.Key.{Key}
use Rattle.iocm_types.specs.declared.key.Key.TheVariants.{Online, Path}
use Rattle.iocm_model.specs.Machine.Configuration.{Configuration, records_of}
use Rattle.iocm_model.specs.Machine.Record.{Rec, OnlineRecord, online}
use Rattle.iocm_difference.specs.Same.{same_names, same_record}

-- the key of an object: any but that of an online pair
abbrev pub is_of_object : Key → Bool
is_of_object (Online css p name) = false
is_of_object _ = true

-- the names that are online at a path, in order
abbrev pub name_at : ℕ → ℕ → OnlineRecord → Option (List ℕ)
name_at css p o = if_at ((o.css == css) && (o.path == p)) o.name
  where
    if_at : Bool → List ℕ → Option (List ℕ)
    if_at true name = Some name
    if_at false name = None

abbrev pub name_online : ℕ → ℕ → Rec → Option (List ℕ)
name_online css p (online o) = name_at css p o
name_online css p _ = None

abbrev pub online_at : Configuration → Key → List (List ℕ)
online_at c (Path css p) = filter_map (name_online css p) (records_of c)
online_at c _ = []

-- an object that is there after alone, before alone
abbrev pub is_added : Configuration → Configuration → Key → Bool
is_added c d key = is_of_object key && not (is_some (get c key)) && is_some (get d key)

abbrev pub is_deleted : Configuration → Configuration → Key → Bool
is_deleted c d key = is_added d c key

-- an object that is there before and after, and isn't the same
abbrev pub is_same_object : Configuration → Configuration → Key → Bool
is_same_object c d key =
    option_eq same_record (get c key) (get d key) && same_names (online_at c key) (online_at d key)

abbrev pub is_changed : Configuration → Configuration → Key → Bool
is_changed c d key = is_of_object key && is_some (get c key) && is_some (get d key) && not (is_same_object c d key)
