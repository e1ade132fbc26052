-- The paths by which a channel subsystem reaches a device.
-- IOCP User's Guide, CNTLUNIT and IODEVICE statements; the order is own.
use Rattle.std.specs.Prelude.{ℕ, ◌==◌, List, [], map, filter, take, Option, Some}
use Rattle.std.specs.List.{flat_map}
use Rattle.iocm_types.specs.declared.css_path.CssPath.{CssPath}
use Rattle.iocm_types.specs.declared.key.Key.TheVariants.{Unit}
use Rattle.iocm_model.specs.Machine.Record.{Rec, unit}
use Rattle.iocm_model.specs.Machine.Configuration.{Lookup}

-- of a unit's paths those in a channel subsystem, in the order of PATH
abbrev pub paths_in : ℕ → List CssPath → List ℕ
paths_in css paths = map (λ (p : CssPath). p.path) (filter (λ (p : CssPath). p.css == css) paths)

-- the paths of a unit that is there
abbrev pub unit_record_paths : ℕ → Option Rec → List ℕ
unit_record_paths css (Some (unit r)) = paths_in css r.paths
unit_record_paths css _ = []

-- the paths of a unit by its number; a unit that isn't there has none
abbrev pub unit_paths : Lookup → ℕ → ℕ → List ℕ
unit_paths c css number = unit_record_paths css (c (Unit number))

-- the whole path list of a device: the paths of its units, joined in the order of CUNUMBR
abbrev pub path_list : Lookup → ℕ → List ℕ → List ℕ
path_list c css units = flat_map (unit_paths c css) units

-- what a view has of it: the first eight
abbrev pub view_paths : Lookup → ℕ → List ℕ → List ℕ
view_paths c css units = take 8 (path_list c css units)
