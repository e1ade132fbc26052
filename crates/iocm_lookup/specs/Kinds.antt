-- The kinds of records, in the order of keys.
use Rattle.std.specs.Prelude.{◌≡◌, ◌==◌, ◌<◌, ℕ, true, List, filter}
use Rattle.std.specs.Ordering.{is_le}
use Rattle.iocm_types.specs.declared.key.Key.{Key}
use Rattle.iocm_types.specs.declared.key.Key.TheVariants as key
use Rattle.iocm_types.specs.Key.{key_cmp}
use Rattle.iocm_model.specs.Machine.Record.{Rec, key_of}
use Rattle.iocm_lookup.specs.declared.kind.RecordKind.{RecordKind}
use Rattle.iocm_lookup.specs.declared.kind.RecordKind.TheVariants as kind

-- the place of a key's kind
abbrev pub kind_of : Key → ℕ
kind_of key.Id = 0
kind_of key.Resource = 1
kind_of (key.Image css mif) = 2
kind_of (key.Limit css set) = 3
kind_of (key.Path css number) = 4
kind_of (key.Unit number) = 5
kind_of (key.Device set number) = 6
kind_of (key.Online css path name) = 7

-- the place of a kind that is looked for
abbrev pub place_of : RecordKind → ℕ
place_of kind.Image = 2
place_of kind.Path = 4
place_of kind.Unit = 5
place_of kind.Device = 6
place_of kind.Online = 7

-- the records of a kind, in their order
abbrev pub of_kind : ℕ → List Rec → List Rec
of_kind place rs = filter (λ (r : Rec). kind_of (key_of r) == place) rs

-- no key of a kind stands before this one
abbrev pub IsBeforeKind : Key → ℕ → Type 0
IsBeforeKind first place = (k : Key) → kind_of k ≡ place → is_le (key_cmp first k) ≡ true

-- the numbers of a key are those of a machine: it has four subchannel sets, and device numbers have
-- 16 bits
abbrev pub IsInMachine : Key → Type 0
IsInMachine (key.Device set number) = (set < 4) × (number < 65536)
IsInMachine _ = Unit {0}

-- no key of a machine that is of an earlier kind stands behind this one
abbrev pub IsBehindEarlier : Key → ℕ → Type 0
IsBehindEarlier first place = (k : Key) → IsInMachine k → kind_of k < place → is_le (key_cmp k first) ≡ true
