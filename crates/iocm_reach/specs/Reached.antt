-- Which images reach a channel path, and to which it is online, by their MIF image IDs.
-- IOCP User's Guide, RESOURCE statement (MIF image IDs) and CHPID statement (access and candidate
-- list); that a path is online to an image is a record of our own.
use Rattle.std.specs.Prelude.{ℕ, Bool, false, List, Option, None, Some}
use Rattle.iocm_types.specs.declared.image.Image.{Image}
use Rattle.iocm_model.specs.Machine.Configuration.{Lookup}
use Rattle.iocm_model.specs.Machine.Sight.{reaches}
use Rattle.iocm_model.specs.Machine.Mask.{is_online}
use Rattle.iocm_derive.specs.Derived.{name_at}
use Rattle.iocm_reach.specs.declared.image_path.ImagePath.{ImagePath}

-- the image of a MIF image ID in a channel subsystem
abbrev pub image_in : ℕ → ℕ → Image
image_in css mif = record { css = css; mif = mif }

-- whether there is a name, and it passes a test
abbrev pub is_named : (List ℕ → Bool) → Option (List ℕ) → Bool
is_named test None = false
is_named test (Some name) = test name

-- whether the image of this MIF image ID is there, and reaches the path of its channel subsystem
abbrev pub reached_by : Lookup → ℕ → ℕ → ℕ → Bool
reached_by c css path mif = is_named (λ name. reaches c css name path) (name_at c (image_in css mif))

-- whether it is there, and the path is online to it
abbrev pub online_to : Lookup → ℕ → ℕ → ℕ → Bool
online_to c css path mif = is_named (λ name. is_online c css name path) (name_at c (image_in css mif))

-- both
abbrev pub path_to : Lookup → ℕ → ℕ → ℕ → ImagePath
path_to c css path mif = record { reached = reached_by c css path mif; online = online_to c css path mif }

-- both for the image of a name, if there is one
abbrev pub path_as : Lookup → ℕ → ℕ → Option (List ℕ) → ImagePath
path_as c css path name = record {
  reached = is_named (λ n. reaches c css n path) name;
  online = is_named (λ n. is_online c css n path) name;
}
