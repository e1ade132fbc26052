-- Images that are looked for among the records.
use Rattle.std.specs.Prelude.{◌≡◌, ℕ, ◌==◌, ◌&&◌, nat_lt, Bool, true, false, List, Option}
use Rattle.std.specs.List.{list_any}
use Rattle.std.specs.Option.{option_map_or}
use Rattle.iocm_types.specs.declared.key.Key.{Key}
use Rattle.iocm_types.specs.declared.key.Key.TheVariants as key
use Rattle.iocm_model.specs.Machine.Record.{Rec, image}
use Rattle.iocm_model.specs.Machine.Configuration.{Configuration}
use Rattle.iocm_model.specs.Rules.EachRule.{same_name, is_image_in}

-- an image of this name in a channel subsystem
abbrev pub is_named_in : ℕ → List ℕ → Rec → Bool
is_named_in css name (image i) = i.css == css && same_name name i.name
is_named_in css name _ = false

-- a key behind those of the images of a channel subsystem
abbrev pub is_past_images : ℕ → Key → Bool
is_past_images css key.Id = false
is_past_images css key.Resource = false
is_past_images css (key.Image own mif) = nat_lt css own
is_past_images css _ = true

-- a channel subsystem of a configuration
pub record Subsystem : Type 0 where
  pub records : Configuration
  pub css : ℕ

-- a name that is there is this one
abbrev pub is_named : List ℕ → Option (List ℕ) → Bool
is_named name own = option_map_or (same_name name) own false

-- a name is among these
abbrev pub has_name : List ℕ → List (Option (List ℕ)) → Bool
has_name name names = list_any (is_named name) names

-- of all names just those of the images of a channel subsystem are among these
abbrev pub AreNamesIn : Configuration → ℕ → List (Option (List ℕ)) → Type 0
AreNamesIn c css names = (name : List ℕ) → has_name name names ≡ is_image_in c css name
