-- What was read of a deck so far, and which keys it has.
use Rattle.std.specs.Prelude.{◌≡◌, ℕ, ◌==◌, Bool, true, false, not, is_some, if◌then◌else◌, Option, None, Some}
use Rattle.std.specs.Prelude.{List, ◌∷◌, [], ◌++◌, get_or}
use Rattle.std.specs.BTreeSet.{BTreeSet, contains}
use Rattle.std.specs.FinMap.{find}
use Rattle.std.specs.declared.cmp.Ordering.TheVariants.{Less}
use Rattle.iocm_types.specs.declared.key.Key.{Key}
use Rattle.iocm_types.specs.declared.key.Key.TheVariants as kind
use Rattle.iocm_types.specs.Key.{key_cmp}
use Rattle.iocm_model.specs.Machine.Record.{Rec, key_of}
use Rattle.iocm_model.specs.Machine.Configuration.{with_keys, HasNoKeyTwice}
use Rattle.iocm_record_reader.specs.declared.claimed.Claimed.{Claimed}
use Rattle.iocm_record_reader.specs.declared.claimed.Coming.{Coming}
use Rattle.iocm_record_reader.specs.declared.claimed.Coming.TheVariants.{InSet, Past, OutOfOrder}

-- whether there was an ID and a RESOURCE statement, and the records
pub record Progress : Type 0 where
  pub has_id : Bool
  pub has_resource : Bool
  pub records : List Rec

-- whether a record of this key is there
abbrev pub has_key : List Rec → Key → Bool
has_key records key = is_some (find key_cmp key (with_keys records))

-- whether a key is in a set of keys
abbrev pub has_claimed : BTreeSet Key → Key → Bool
has_claimed keys key = contains key_cmp keys key

-- the place of a key's kind in the order of keys, counted from 0
abbrev pub place_of : Key → ℕ
place_of kind.Id = 0
place_of kind.Resource = 1
place_of (kind.Image css mif) = 2
place_of (kind.Limit css set) = 3
place_of (kind.Path css number) = 4
place_of (kind.Unit number) = 5
place_of (kind.Device set number) = 6
place_of (kind.Online css path name) = 7

-- of the last keys of each kind that of a key's kind, if there was one
abbrev pub last_like : List (Option Key) → Key → Option Key
last_like lasts key = get_or lasts (place_of key) None

-- the set alone tells of all keys, once one came out of order
abbrev pub IsInSet : Option (List (Option Key)) → Type 0
IsInSet None = Unit {0}
IsInSet (Some lasts) = ⊥

-- a key is greater than the last one of its kind, or there was none
abbrev pub IsAfter : Option Key → Key → Type 0
IsAfter None key = Unit {0}
IsAfter (Some last) key = key_cmp last key ≡ Less

-- the same, while keys come in order
abbrev pub IsPast : Option (List (Option Key)) → Key → Type 0
IsPast None key = ⊥
IsPast (Some lasts) key = IsAfter (last_like lasts key) key

-- how a key comes: the set tells of it, or it is greater than the last one of its kind
abbrev pub IsComing : Option (List (Option Key)) → Key → Coming → Type 0
IsComing lasts key InSet = IsInSet lasts
IsComing lasts key Past = IsPast lasts key
IsComing lasts key OutOfOrder = Unit {0}

-- a key is noted as the last one of its kind
abbrev pub IsNoted : List (Option Key) → Key → List (Option Key) → Type 0
IsNoted old key new = (q : Key)
    → last_like new q ≡ (if place_of q == place_of key then Some key else last_like old q)

-- the same, while keys come in order
abbrev pub WasNoted : Option (List (Option Key)) → Key → Option (List (Option Key)) → Type 0
WasNoted (Some old) key (Some new) = IsNoted old key new
WasNoted None key None = Unit {0}
WasNoted _ key _ = ⊥

-- what was claimed are the keys of these records, of which no key stands twice
pub record IsKept (claimed : Claimed) (records : List Rec) : Type 0 where
  pub only : (key : Key) → has_claimed claimed.keys key ≡ true → has_key records key ≡ true
  pub all : (key : Key) → IsInSet claimed.lasts → has_key records key ≡ true → has_claimed claimed.keys key ≡ true
  pub past : (key : Key) → IsPast claimed.lasts key → has_key records key ≡ false
  pub apart : HasNoKeyTwice records

-- a key is claimed for a record after these: whether it is new, and what is claimed then
abbrev pub Claims : Claimed → List Rec → Key → Bool → Claimed → Type 0
Claims old earlier key is_new new = IsKept old earlier
    → (is_new ≡ not (has_key earlier key))
    × ((r : Rec) → key_of r ≡ key → has_key earlier key ≡ false → IsKept new (earlier ++ r ∷ []))

-- the set has the keys of all these records, and tells of each key from now on
abbrev pub IsOpened : Claimed → List Rec → Claimed → Type 0
IsOpened old earlier new = IsKept old earlier → IsKept new earlier × (new.lasts ≡ None)
