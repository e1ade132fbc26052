-- What filters ask for that a configuration hasn't, and what is said of it.
use Rattle.std.specs.Prelude.{ℕ, Bool, false, not, ◌==◌, ◌||◌, Option, None, Some, List, ◌++◌, filter, map}
use Rattle.std.specs.FinMap.{entries}
use Rattle.std.specs.List.{filter_map, list_any}
use Rattle.iocm_types.specs.declared.key.Key.{Key}
use Rattle.iocm_model.specs.Machine.Record.{Rec, image, path, unit, device}
use Rattle.iocm_model.specs.Machine.Configuration.{Configuration}
use Rattle.iocm_filter.specs.declared.notes.Asked.{Asked}
use Rattle.iocm_filter.specs.declared.notes.Asked.TheVariants.{Image, Unit, Path, Device}
use Rattle.iocm_filter.specs.Wanted.{Wanted, is_at, is_named, is_within, means_path}

-- a record is that of what is asked for
abbrev pub is_asked : Asked → Rec → Bool
is_asked (Image word) (image i) = is_at (record { css = i.css; mif = i.mif }) word || is_named i.name word
is_asked (Unit number) (unit u) = u.number == number
is_asked (Path word) (path p) = means_path word p.css p.number
is_asked (Device range) (device d) = is_within d.set d.number range
is_asked _ _ = false

-- what is asked for by its name: images, control units, paths, devices
abbrev pub asked_by_name : Wanted → List Asked
asked_by_name w = map Image w.images ++ map Unit w.units ++ map Path w.paths ++ map Device w.devices

-- a configuration has it
abbrev pub is_there : Configuration → Asked → Bool
is_there c a = list_any (λ (e : Key × Rec). is_asked a e.1) (entries c)

-- what of it isn't there
abbrev pub missing_in : Configuration → Wanted → List Asked
missing_in c w = filter (λ a. not (is_there c a)) (asked_by_name w)

-- the names of the images
abbrev pub name_of : Rec → Option (List ℕ)
name_of (image i) = Some i.name
name_of _ = None

abbrev pub image_names : Configuration → List (List ℕ)
image_names c = filter_map (λ (e : Key × Rec). name_of e.1) (entries c)
