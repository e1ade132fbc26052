-- Objects of which the same is told: devices whose numbers follow each other in a run, any other object alone.
use Rattle.std.specs.Prelude.{ℕ, zero, suc, ◌+◌, Bool, true, false, ◌==◌, ◌&&◌, if◌then◌else◌, Option, None, Some, List}
use Rattle.std.specs.Prelude.{[], ◌∷◌, map}
use Rattle.std.specs.Cmp.Lexicographic.{pointwise}
use Rattle.std.specs.Str.{bytes_eq}
use Rattle.iocm_types.specs.declared.key.Key.{Key}
use Rattle.iocm_types.specs.declared.key.Key.TheVariants as key
use Rattle.iocm_objects.specs.declared.object.Change.{Change}
use Rattle.iocm_objects.specs.declared.object.Change.TheVariants as change
use Rattle.iocm_objects.specs.declared.object.Object.{Object}
use Rattle.iocm_objects.specs.declared.runs.Run as fields
use Rattle.iocm_objects.specs.declared.told.Told.{Told}
use Rattle.iocm_objects.specs.declared.told.Told.TheVariants as told

-- a run: its first object, and how many there are
pub record Run : Type 0 where
  pub first : Object
  pub count : ℕ

abbrev pub run_of : fields.Run → Run
run_of r = record { first = r.first.now; count = r.count }

abbrev pub alone : Object → Run
alone o = record { first = o; count = 1 }

-- ---- which object continues a run

-- the device after so many from a first one, and how many these are then
abbrev pub next_number : ℕ → ℕ → ℕ → Option ℕ
next_number first count number = if number == first + count then Some (count + 1) else None

abbrev pub next_count : Key → ℕ → Key → Option ℕ
next_count (key.Device set first) count (key.Device own number) =
    if own == set then next_number first count number else None
next_count _ count _ = None

abbrev pub follows : ℕ → ℕ → ℕ → Bool
follows first count address = address == first + count

-- the same is told of a device so many after another; a unit address has gone on as far
abbrev pub is_told_alike : ℕ → Told → Told → Bool
is_told_alike count (told.Words name text) (told.Words other another) = bytes_eq name other && bytes_eq text another
is_told_alike count (told.Address first) (told.Address address) = follows first count address
is_told_alike count (told.OtherAddress old new) (told.OtherAddress before after) =
    follows old count before && follows new count after
is_told_alike count _ _ = false

abbrev pub same_change : Change → Change → Bool
same_change change.Added change.Added = true
same_change change.Deleted change.Deleted = true
same_change change.Changed change.Changed = true
same_change _ _ = false

-- how many objects a run has with one more, if that continues it
abbrev pub continued : Run → Object → Option ℕ
continued r o =
    if same_change r.first.change o.change && pointwise (is_told_alike r.count) r.first.told o.told
    then next_count r.first.key r.count o.key else None

-- ---- runs

-- what stands before the others of a list: the run that is open, longer by one, or a run that is over
abbrev pub by_count : Run → Option ℕ → (Run → List Run) → List Run → List Run
by_count r None longer others = r ∷ others
by_count r (Some count) longer others = longer (record { first = r.first; count = count })

-- a run and the objects behind it
abbrev pub runs_from : Run → List Object → List Run
runs_from r [] = r ∷ []
runs_from r (o ∷ os) = by_count r (continued r o) (λ longer. runs_from longer os) (runs_from (alone o) os)

abbrev pub runs : List Object → List Run
runs [] = []
runs (o ∷ os) = runs_from (alone o) os

-- ---- written out

-- what is told of an object: its key, its change, and the fields as they are told
pub record Entry : Type 0 where
  pub key : Key
  pub change : Change
  pub told : List Told

abbrev pub entry_of : Object → Entry
entry_of o = record { key = o.key; change = o.change; told = o.told }

-- the key, and what is told, so many after
abbrev pub key_after : ℕ → Key → Key
key_after n (key.Device set number) = key.Device set (number + n)
key_after n k = k

abbrev pub told_after : ℕ → Told → Told
told_after n (told.Words name text) = told.Words name text
told_after n (told.Address address) = told.Address (address + n)
told_after n (told.OtherAddress old new) = told.OtherAddress (old + n) (new + n)

abbrev pub entry_after : ℕ → Object → Entry
entry_after n o = record { key = key_after n o.key; change = o.change; told = map (told_after n) o.told }

-- the objects of a run, one by one
abbrev pub entries_from : Object → ℕ → ℕ → List Entry
entries_from o n zero = []
entries_from o n (suc left) = entry_after n o ∷ entries_from o (n + 1) left

abbrev pub entries_in : Run → List Entry
entries_in r = entries_from r.first 0 r.count
