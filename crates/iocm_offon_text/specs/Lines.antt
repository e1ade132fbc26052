-- Objects that are reasons, those of which the same is told in one line: of one kind, with the same fields, paths and
-- images; and paths of one number with the same fields.
use Rattle.std.specs.Prelude.{ℕ, ◌+◌, zero, suc, Bool, true, nat_le, nat_lt, ◌==◌, ◌&&◌, if◌then◌else◌, List, [], ◌∷◌}
use Rattle.std.specs.Prelude.{◌++◌, filter, fold, length, sum_by}
use Rattle.std.specs.List.{flat_map, list_all, list_any, zip}
use Rattle.std.specs.Str.{bytes_eq}
use Rattle.iocm_types.specs.declared.key.Key.{Key}
use Rattle.iocm_types.specs.declared.key.Key.TheVariants as key
use Rattle.iocm_objects.specs.Runs as objects
use Rattle.iocm_plan.specs.declared.runs.DeviceRun.{DeviceRun}
use Rattle.iocm_impact.specs.declared.named_image.NamedImage.{NamedImage}
use Rattle.iocm_offon_text.specs.Fields.{fields_text}
use Rattle.iocm_offon_text.specs.Kinds.{is_path, is_same_kind, kind_of}
use Rattle.iocm_offon.specs.Reached.{images_in, is_over, paths_text, runs_in}
use Rattle.iocm_offon.specs.UnderKeys.{reasons_under}
use Rattle.iocm_offon_text.specs.declared.kind.Kind.{Kind}
use Rattle.iocm_offon_text.specs.declared.line.ObjectRange.{ObjectRange}
use Rattle.iocm_offon.specs.declared.reason.Reason.{Reason}

-- ---- the reasons of a run of objects

-- so many devices from one on are among a run of devices
abbrev pub overlaps : ℕ → ℕ → ℕ → DeviceRun → Bool
overlaps set first count d =
    d.first.set == set && nat_lt d.first.number (first + count) && nat_lt first (d.first.number + d.count)

-- those under the key; of devices those of each run of devices that some of them are in
abbrev pub run_key : DeviceRun → Key
run_key d = key.Device d.first.set d.first.number

abbrev pub own_by : (Key → List Reason) → List DeviceRun → ℕ → Key → List Reason
own_by under ds count (key.Device set first) = flat_map (λ d. under (run_key d)) (filter (overlaps set first count) ds)
own_by under ds count k = under k

abbrev pub own_reasons : List DeviceRun → List Reason → objects.Run → List Reason
own_reasons ds rs o = own_by (λ k. reasons_under k rs) ds o.count o.first.key

-- ---- lines

abbrev pub range_of : objects.Run → ObjectRange
range_of o = record { first = o.first.key; change = o.first.change; count = o.count }

pub record Line : Type 0 where
  pub kind : Kind
  pub fields : List ℕ
  pub paths : List ℕ
  pub images : List NamedImage
  pub ranges : List ObjectRange
  pub reasons : List Reason

-- the line of one run; of paths the fields alone say what is told together
abbrev pub line_of : List NamedImage → objects.Run → List Reason → Line
line_of is o rs = record {
  kind = kind_of o.first.key;
  fields = fields_text (kind_of o.first.key) (is_over rs) o.count o.first.told;
  paths = if is_path (kind_of o.first.key) then [] else paths_text rs;
  images = if is_path (kind_of o.first.key) then [] else images_in is rs;
  ranges = range_of o ∷ [];
  reasons = rs;
}

abbrev pub same_image : NamedImage × NamedImage → Bool
same_image p = p.0.image.css == p.1.image.css && p.0.image.mif == p.1.image.mif

abbrev pub same_images : List NamedImage → List NamedImage → Bool
same_images is js = (length is == length js) && list_all same_image (zip is js)

abbrev pub is_told_with : Line → Line → Bool
is_told_with l m = is_same_kind l.kind m.kind && bytes_eq l.fields m.fields && bytes_eq l.paths m.paths
    && same_images l.images m.images

abbrev pub both : Line → Line → Line
both l m = record {
  kind = l.kind;
  fields = l.fields;
  paths = l.paths;
  images = l.images;
  ranges = l.ranges ++ m.ranges;
  reasons = l.reasons ++ m.reasons;
}

-- a line is told with the first of which the same is told, or behind all of them
abbrev pub with_line : List Line → Line → List Line
with_line [] l = l ∷ []
with_line (m ∷ ms) l = if is_told_with m l then both m l ∷ ms else m ∷ with_line ms l

-- objects that are no reason aren't told
abbrev pub with_run : List NamedImage → List Line → objects.Run → List Reason → List Line
with_run is ls o [] = ls
with_run is ls o (r ∷ rs) = with_line ls (line_of is o (r ∷ rs))

abbrev pub lines_from : List NamedImage → List DeviceRun → List Reason → List Line → List objects.Run → List Line
lines_from is ds rs ls os = fold (λ ls o. with_run is ls o (own_reasons ds rs o)) ls os

-- ---- the devices of a line

-- how many of the numbers below another one pass a test
abbrev pub count_below : ℕ → (ℕ → Bool) → ℕ
count_below zero p = 0
count_below (suc n) p = count_below n p + (if p n then 1 else 0)

-- the device at a place of a run, counted from 0, is told: it is among devices that are told, or others are
abbrev pub tells_device : DeviceRun → ℕ → Key → ℕ → Bool
tells_device d n (key.Device set first) count =
    d.first.set == set && nat_le first (d.first.number + n) && nat_lt (d.first.number + n) (first + count)
tells_device d n _ count = true

abbrev pub tells : DeviceRun → ℕ → ObjectRange → Bool
tells d n o = tells_device d n o.first o.count

abbrev pub told_in : List ObjectRange → DeviceRun → ℕ
told_in os d = count_below d.count (λ n. list_any (tells d n) os)

abbrev pub devices_in : List DeviceRun → Line → ℕ
devices_in ds l = sum_by (told_in l.ranges) (runs_in ds l.reasons)
