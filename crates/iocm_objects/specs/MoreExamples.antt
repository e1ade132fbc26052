-- Objects between two small decks, and runs, lines and counts of objects, as they are worked by hand.
use Rattle.std.specs.Prelude.{◌≡◌, ℕ, None, List, [], ◌∷◌, ◌++◌, map, codes}
use Rattle.std.specs.List.{flat_map}
use Rattle.iocm_types.specs.declared.key.Key.{Key}
use Rattle.iocm_types.specs.declared.key.Key.TheVariants as key
use Rattle.iocm_types.specs.declared.path_kind.PathKind.TheVariants.{Shared}
use Rattle.iocm_model.specs.Machine.Configuration.{Configuration, configuration_of}
use Rattle.iocm_model.specs.Machine.Record.{Rec, DeviceRecord, PathRecord, device, image, limit, online, path}
use Rattle.iocm_objects.specs.declared.counts.ObjectKind.TheVariants as kind
use Rattle.iocm_objects.specs.declared.object.Change.{Change}
use Rattle.iocm_objects.specs.declared.object.Change.TheVariants.{Added, Deleted, Changed}
use Rattle.iocm_objects.specs.declared.object.Object.{Object}
use Rattle.iocm_objects.specs.declared.told.Told.{Told}
use Rattle.iocm_objects.specs.declared.told.Told.TheVariants as told
use Rattle.iocm_objects.specs.Counts.{count_objects}
use Rattle.iocm_objects.specs.Lines.{lines}
use Rattle.iocm_objects.specs.Examples.{lpa}
use Rattle.iocm_objects.specs.Objects.{objects}
use Rattle.iocm_objects.specs.Runs.{Run, runs}

-- an object of which this is told
abbrev pub object : Key → Change → List Told → Object
object k becomes ts = record { key = k; change = becomes; before = []; after = []; told = ts }

-- devices of set 0 that are added, deleted, and changed
abbrev pub words : List ℕ → List ℕ → Told
words name text = told.Words name text

abbrev pub device_on : ℕ → ℕ → Change → ℕ → ℕ → Object
device_on set number becomes unit address =
    object (key.Device set number) becomes (words (codes "CUNUMBR") (unit ∷ []) ∷ told.Address address ∷ [])

abbrev pub added : ℕ → ℕ → Object
added number address = device_on 0 number Added 65 address

abbrev pub retyped : ℕ → Object
retyped number = object (key.Device 0 number) Changed (words (codes "UNIT") (codes "UNIT 3390 -> 3592") ∷ [])

abbrev pub moved : ℕ → ℕ → ℕ → Object
moved number old new = object (key.Device 1 number) Changed (told.OtherAddress old new ∷ [])

abbrev pub counts : List Object → List ℕ
counts os = map (λ (r : Run). r.count) (runs os)

-- how many objects are in each run
pub record RunsAreAsWorked : Type 0 where
  pub none : counts [] ≡ []
  pub joined : counts (added 0x2000 0 ∷ added 0x2001 1 ∷ added 0x2002 2 ∷ []) ≡ 3 ∷ []
  pub gap : counts (added 0x2000 0 ∷ added 0x2002 1 ∷ added 0x2003 2 ∷ []) ≡ 1 ∷ 2 ∷ []
  pub other_set : counts (added 0x2000 0 ∷ device_on 1 0x2001 Added 65 1 ∷ []) ≡ 1 ∷ 1 ∷ []
  pub other_change : counts (added 0x2000 0 ∷ device_on 0 0x2001 Deleted 65 1 ∷ []) ≡ 1 ∷ 1 ∷ []
  pub other_unit : counts (added 0x2000 0 ∷ device_on 0 0x2001 Added 66 1 ∷ []) ≡ 1 ∷ 1 ∷ []
  pub other_address : counts (added 0x2000 0 ∷ added 0x2001 0 ∷ []) ≡ 1 ∷ 1 ∷ []
  pub other_field : counts (added 0x2000 0 ∷ retyped 0x2001 ∷ []) ≡ 1 ∷ 1 ∷ []
  -- where no unit address is told, none counts
  pub changed : counts (retyped 0x2000 ∷ retyped 0x2001 ∷ []) ≡ 2 ∷ []
  pub both_addresses : counts (moved 0x2000 0 8 ∷ moved 0x2001 1 9 ∷ moved 0x2002 2 9 ∷ []) ≡ 2 ∷ 1 ∷ []
  -- control units aren't joined
  pub units : counts (object (key.Unit 0x2000) Changed [] ∷ object (key.Unit 0x2001) Changed [] ∷ []) ≡ 1 ∷ 1 ∷ []

abbrev pub text_of : List (List ℕ) → List ℕ
text_of ls = flat_map (λ l. l ++ 10 ∷ []) ls

-- a run of added devices, one device, changed addresses, an image that goes, and a path that is written otherwise
pub record LinesAreAsWorked : Type 0 where
  pub run : lines (runs (added 0x2000 0 ∷ added 0x2001 1 ∷ []))
      ≡ text_of (codes "+ device 2000-2001 (2)       A  UNITADD 00-01" ∷ [])
  pub one : lines (runs (added 0x1003 3 ∷ [])) ≡ text_of (codes "+ device 1003                A  UNITADD 03" ∷ [])
  pub changed : lines (runs (moved 0x2020 0x20 0x30 ∷ moved 0x2021 0x21 0x31 ∷ []))
      ≡ text_of (codes "~ device 1.2020-2021 (2)     UNITADD 20-21 -> 30-31" ∷ [])
  pub image : lines (runs (object (key.Image 0 1) Deleted (words (codes "name") (codes "name LPA") ∷ []) ∷ []))
      ≡ text_of (codes "- image 0.1                  name LPA" ∷ [])
  pub otherwise : lines (runs (object (key.Path 0 0x40) Changed [] ∷ []))
      ≡ text_of (codes "~ path 0.40                  written otherwise" ∷ [])

-- two devices are added, one is changed, and an image goes
abbrev pub some_objects : List Object
some_objects = object (key.Image 0 1) Deleted [] ∷ added 0x2000 0 ∷ added 0x2001 1 ∷ retyped 0x2002 ∷ []

pub record CountsAreAsWorked : Type 0 where
  pub added : count_objects Added kind.Device some_objects ≡ 2
  pub changed : count_objects Changed kind.Device some_objects ≡ 1
  pub image : count_objects Deleted kind.Image some_objects ≡ 1
  pub no_unit : count_objects Deleted kind.Unit some_objects ≡ 0

-- ---- from two decks

abbrev pub path_40 : PathRecord
path_40 = record { css = 0; number = 0x40; kind = Shared; access = lpa ∷ []; candidates = []; carried = [] }

abbrev pub device_on_1000 : ℕ → ℕ → DeviceRecord
device_on_1000 number address = record {
  set = 0;
  number = number;
  units = 0x1000 ∷ [];
  unit_address = address;
  candidates = None;
  carried = [];
}

-- path 40 goes offline to LPA, a limit comes, device 1000 goes, and 1001 stays
abbrev pub old_deck : List Rec
old_deck = image (record { css = 0; mif = 1; name = lpa }) ∷ path path_40 ∷ device (device_on_1000 0x1000 0)
    ∷ device (device_on_1000 0x1001 1) ∷ online (record { css = 0; path = 0x40; name = lpa }) ∷ []

abbrev pub new_deck : List Rec
new_deck = image (record { css = 0; mif = 1; name = lpa }) ∷ limit (record { css = 0; set = 0; limit = 16 })
    ∷ path path_40 ∷ device (device_on_1000 0x1001 1) ∷ []

pub record ObjectsAreAsWorked (c d : Configuration) : Type 0 where
  pub differ : lines (runs (objects c d)) ≡ text_of (codes "+ limit 0.0                  limit 16"
      ∷ codes "~ path 0.40                  online -LPA" ∷ codes "- device 1000                CUNUMBR 1000  UNITADD 00" ∷ [])
  pub same : objects c c ≡ []

abbrev pub before : Configuration
before = configuration_of old_deck

abbrev pub after : Configuration
after = configuration_of new_deck
