-- The lines that tell objects: a sign, the name on 26 places, and the fields, two blanks apart.
-- Bytes by their codes: 10 is a line feed, 32 a blank, 43 a plus sign, 45 a minus sign, 46 a point, 126 a tilde.
use Rattle.std.specs.Prelude.{ℕ, ◌+◌, ◌-◌, ◌==◌, nat_lt, if◌then◌else◌, List, [], ◌∷◌, ◌++◌, length, replicate, codes}
use Rattle.std.specs.Fmt.{decimal}
use Rattle.std.specs.List.{flat_map}
use Rattle.iocm_types.specs.declared.key.Key.{Key}
use Rattle.iocm_types.specs.declared.key.Key.TheVariants as key
use Rattle.iocm_types.specs.Key.{key_text}
use Rattle.iocm_types.specs.Print.{hex1, hex2, hex4}
use Rattle.iocm_words.specs.Ranges.{from_to}
use Rattle.iocm_words.specs.Table.{without_blanks_behind}
use Rattle.iocm_objects.specs.declared.object.Change.{Change}
use Rattle.iocm_objects.specs.declared.object.Change.TheVariants as change
use Rattle.iocm_objects.specs.declared.told.Told.{Told}
use Rattle.iocm_objects.specs.declared.told.Told.TheVariants as told
use Rattle.iocm_objects.specs.Differing.{arrow}
use Rattle.iocm_objects.specs.Runs.{Run}

abbrev pub sign : Change → ℕ
sign change.Added = 43
sign change.Deleted = 45
sign change.Changed = 126

-- ---- names

-- so many numbers from a first one on: 2000-207F, or one alone
abbrev pub range_text : (ℕ → List ℕ) → ℕ → ℕ → List ℕ
range_text hex first count = from_to hex first (first + count - 1)

-- behind a point the devices of a set other than 0: 1.2080-20FF
abbrev pub set_part : ℕ → List ℕ
set_part set = if set == 0 then [] else hex1 set ++ 46 ∷ []

-- the count of several
abbrev pub count_part : ℕ → List ℕ
count_part count = if nat_lt 1 count then codes " (" ++ (decimal count ++ codes ")") else []

abbrev pub devices_text : ℕ → ℕ → ℕ → List ℕ
devices_text set number count =
    codes "device " ++ (set_part set ++ (range_text hex4 number count ++ count_part count))

-- device 2000-207F (128); any other key as it is printed
abbrev pub name_text : Key → ℕ → List ℕ
name_text (key.Device set number) count = devices_text set number count
name_text k count = key_text k

-- ---- fields

-- a field of a run: of its unit addresses the first and the last are told
abbrev pub told_text : ℕ → Told → List ℕ
told_text count (told.Words name text) = text
told_text count (told.Address first) = codes "UNITADD " ++ range_text hex2 first count
told_text count (told.OtherAddress old new) =
    arrow (codes "UNITADD") (range_text hex2 old count) (range_text hex2 new count)

abbrev pub told_item : ℕ → Told → List ℕ
told_item count t = told_text count t ++ (32 ∷ 32 ∷ [])

-- with two blanks behind each; where no field is told the record is written otherwise
abbrev pub told_part : ℕ → List Told → List ℕ
told_part count ts =
    if length ts == 0 then codes "written otherwise" else flat_map (told_item count) ts

-- ---- lines

abbrev pub padded : List ℕ → List ℕ
padded name = name ++ replicate (26 - length name) 32

abbrev pub whole_line : Run → List ℕ
whole_line r =
    sign r.first.change ∷ 32 ∷ (padded (name_text r.first.key r.count) ++ (32 ∷ told_part r.count r.first.told))

-- without the blanks at its end
abbrev pub line : Run → List ℕ
line r = without_blanks_behind (whole_line r) ++ 10 ∷ []

abbrev pub lines : List Run → List ℕ
lines rs = flat_map line rs
