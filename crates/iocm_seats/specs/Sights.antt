-- What the images of a channel subsystem share at some number cells.
use Rattle.std.specs.Prelude.{◌≡◌, ◌==◌, ℕ, nat_lt, Bool, true, List, Option, is_some, map, filter}
use Rattle.std.specs.List.{AllByRecursion}
use Rattle.iocm_types.specs.declared.image.Image.{Image}
use Rattle.iocm_types.specs.declared.place.NumberCell.{NumberCell}
use Rattle.iocm_model.specs.Machine.Configuration.{Configuration, lookup_of}
use Rattle.iocm_model.specs.Machine.Numbering.{Numbering}
use Rattle.iocm_derive.specs.Derived.{name_at}
use Rattle.iocm_reach.specs.SightedCells.{SightedCell, sighted_cell}

-- the number cells
abbrev pub cells_of_sights : List SightedCell → List NumberCell
cells_of_sights sights = map (λ (s : SightedCell). s.cell) sights

-- each is a number cell by this configuration and these numbers
abbrev pub AreSights : Configuration → Numbering → List SightedCell → Type 0
AreSights c n sights = AllByRecursion (λ (s : SightedCell). s ≡ sighted_cell c n s.cell) sights

-- whether a number cell is of this channel subsystem, or of one before it
abbrev pub is_in : ℕ → SightedCell → Bool
is_in css s = s.cell.css == css

abbrev pub is_before : ℕ → SightedCell → Bool
is_before css s = nat_lt s.cell.css css

-- a number cell is of this channel subsystem
abbrev pub IsIn : ℕ → SightedCell → Type 0
IsIn css s = s.cell.css ≡ css

-- those of a channel subsystem
abbrev pub sights_in : ℕ → List SightedCell → List SightedCell
sights_in css sights = filter (is_in css) sights

-- a number cell has a device
abbrev pub has_device : SightedCell → Bool
has_device s = is_some s.device

-- where a number cell has a device, this is the name of an image, if it is there
abbrev pub IsNamedAt : Image → Option (List ℕ) → SightedCell → Type 0
IsNamedAt i name s = has_device s ≡ true → name ≡ name_at (lookup_of s.records) i
