-- What the masks promise, bit by bit.
use Rattle.std.specs.Prelude.{◌≡◌, ℕ, ◌-◌, ◌<◌, Bool, false, List, if◌then◌else◌}
use Rattle.std.specs.List.{slice_get}
use Rattle.std.specs.Option.{option_map_or}
use Rattle.std.specs.Int.{bit_at}
use Rattle.iocm_model.specs.Machine.Configuration.{Lookup}
use Rattle.iocm_model.specs.Machine.Sight.{reaches}
use Rattle.iocm_model.specs.Machine.Mask.{installed, available, is_online}

-- there is a path at this place of a list, counted from 0, and it passes the test
abbrev pub passes_at : (ℕ → Bool) → List ℕ → ℕ → Bool
passes_at test paths j = option_map_or test (slice_get paths j) false

-- each bit of a mask, counted from the left, says this of the path at its place
abbrev pub BitsSay : (ℕ → Bool) → List ℕ → ℕ → Type 0
BitsSay test paths mask = (j : ℕ) → j < 8 → bit_at mask (7 - j) ≡ (if passes_at test paths j then 1 else 0)

-- path-installed: the image reaches the path
abbrev pub InstalledBits : Type 0
InstalledBits = (c : Lookup) (css : ℕ) (name paths : List ℕ)
    → BitsSay (reaches c css name) paths (installed c css name paths)

-- path-available: the path is online to the image
abbrev pub AvailableBits : Type 0
AvailableBits = (c : Lookup) (css : ℕ) (name paths : List ℕ)
    → BitsSay (is_online c css name) paths (available c css name paths)
