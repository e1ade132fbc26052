-- A configuration in memory.
use Rattle.std.specs.Prelude.{◌≡◌, true, T, List}
use Rattle.std.specs.List.{list_any}
use Rattle.std.specs.Ordering.{eq_by_cmp}
use Rattle.std.specs.FinMap.{contains_key}
use Rattle.iocm_types.specs.declared.key.Key.{Key}
use Rattle.iocm_types.specs.Key.{key_cmp}
use Rattle.iocm_model.specs.Machine.Configuration.{Configuration}

-- its records, and the keys that have a place
pub record Stored : Type 0 where
  pub records : Configuration
  pub places : List Key

-- a key has a place
abbrev pub HasPlace : Stored → Key → Type 0
HasPlace s key = T (list_any (eq_by_cmp key_cmp key) s.places)

-- a key that has a record has a place
abbrev pub RecordsHavePlaces : Stored → Type 0
RecordsHavePlaces s = (key : Key) → contains_key s.records key ≡ true → HasPlace s key
