-- What is printed of paths that go off and on: a heading, and for each line of objects that are reasons their fields that
-- lead to devices, and below them the paths, devices and images.
-- Bytes by their codes: 10 is a line feed, 32 a blank.
use Rattle.std.specs.Prelude.{ℕ, ◌==◌, if◌then◌else◌, List, [], ◌∷◌, ◌++◌, length, codes}
use Rattle.std.specs.Fmt.{decimal}
use Rattle.std.specs.List.{flat_map}
use Rattle.iocm_words.specs.Table.{without_blanks_behind}
use Rattle.iocm_words.specs.Words.{grouped}
use Rattle.iocm_objects.specs.Lines.{name_text, padded, sign}
use Rattle.iocm_objects.specs.Runs as objects
use Rattle.iocm_objects.specs.declared.object.Object.{Object}
use Rattle.iocm_plan.specs.declared.runs.DeviceRun.{DeviceRun}
use Rattle.iocm_impact.specs.Impact.{Change, images_of, runs_of}
use Rattle.iocm_impact.specs.declared.named_image.NamedImage.{NamedImage}
use Rattle.iocm_impact_text.specs.Listed.{images_text}
use Rattle.iocm_offon_text.specs.Lines.{Line, devices_in, lines_from}
use Rattle.iocm_offon.specs.Reached.{images_in, paths_text}
use Rattle.iocm_offon.specs.Rerouted.{reasons}
use Rattle.iocm_offon_text.specs.declared.line.ObjectRange.{ObjectRange}

-- ---- the objects

-- unit 2000 and 7 more
abbrev pub more_text : ℕ → List ℕ
more_text count = if count == 0 then [] else codes " and " ++ (decimal count ++ codes " more")

abbrev pub names_text : ObjectRange → List ObjectRange → List ℕ
names_text o os = name_text o.first o.count ++ more_text (length os)

-- a sign, the name on 26 places, and the fields
abbrev pub named_part : ObjectRange → List ObjectRange → List ℕ
named_part o os = sign o.change ∷ 32 ∷ (padded (names_text o os) ++ 32 ∷ [])

abbrev pub whole_line : List ObjectRange → List ℕ → List ℕ
whole_line [] fields = []
whole_line (o ∷ os) fields = named_part o os ++ fields

abbrev pub object_line : Line → List ℕ
object_line l = without_blanks_behind (whole_line l.ranges l.fields) ++ 10 ∷ []

-- ---- the paths of which devices, for which images

abbrev pub devices_text : ℕ → List ℕ
devices_text count = grouped (decimal count) ++ (if count == 1 then codes " device" else codes " devices")

abbrev pub images_part : List NamedImage → Line → List ℕ
images_part is l = codes " in " ++ (images_text (length is) (images_in is l.reasons) ++ 10 ∷ [])

abbrev pub reached_line : List NamedImage → List DeviceRun → Line → List ℕ
reached_line is ds l = codes "    " ++ (paths_text l.reasons ++ (codes " of "
    ++ (devices_text (devices_in ds l) ++ images_part is l)))

abbrev pub line_text : List NamedImage → List DeviceRun → Line → List ℕ
line_text is ds l = object_line l ++ reached_line is ds l

-- ---- the whole section; nothing where no path goes off and on

abbrev pub heading : List ℕ
heading = codes "On a real machine these may go off and on again, which no mask shows:" ++ 10 ∷ []

abbrev pub section : List NamedImage → List DeviceRun → List Line → List ℕ
section is ds [] = []
section is ds (l ∷ ls) = heading ++ flat_map (line_text is ds) (l ∷ ls)

abbrev pub lines_of : Change → List Object → List Line
lines_of x os = lines_from (images_of x) (runs_of x) (reasons x) [] (objects.runs os)

abbrev pub offon_text : Change → List Object → List ℕ
offon_text x os = section (images_of x) (runs_of x) (lines_of x os)
