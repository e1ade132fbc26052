-- Which paths an image reaches, and which devices it sees. IOCP User's Guide, CHPID statement
-- (access and candidate list) and IODEVICE statement (candidate list); that a device has one
-- candidate list over all channel subsystems is own.
use Rattle.std.specs.Prelude.{ℕ, Bool, true, false, ◌&&◌, ◌||◌, nat_eq, List, Option, None, Some}
use Rattle.std.specs.List.{list_any}
use Rattle.std.specs.Cmp.Lexicographic.{pointwise}
use Rattle.iocm_types.specs.declared.key.Key.TheVariants.{Path}
use Rattle.iocm_model.specs.Machine.Record.{Rec, DeviceRecord, path}
use Rattle.iocm_model.specs.Machine.Configuration.{Lookup}
use Rattle.iocm_model.specs.Machine.PathList.{path_list}

-- whether a list has a name
abbrev pub has_name : List ℕ → List (List ℕ) → Bool
has_name name names = list_any (pointwise nat_eq name) names

-- whether a path that is there has the name in its access or its candidate list
abbrev pub record_lists : List ℕ → Option Rec → Bool
record_lists name (Some (path r)) = has_name name r.access || has_name name r.candidates
record_lists name _ = false

-- whether the image of this name, in this channel subsystem, reaches a path there
abbrev pub reaches : Lookup → ℕ → List ℕ → ℕ → Bool
reaches c css name number = record_lists name (c (Path css number))

-- whether a device lists no candidates, or this name among them
abbrev pub is_candidate : List ℕ → Option (List (List ℕ)) → Bool
is_candidate name None = true
is_candidate name (Some names) = has_name name names

-- whether the image sees the device: it is a candidate, and reaches some path of the whole path
-- list
abbrev pub sees : Lookup → ℕ → List ℕ → DeviceRecord → Bool
sees c css name d = is_candidate name d.candidates && list_any (reaches c css name) (path_list c css d.units)
