-- What is kept from one subchannel to the next, where many are asked for their views.
use Rattle.std.specs.Prelude.{◌≡◌, Option, Some, IfSome}
use Rattle.iocm_model.specs.Machine.Configuration.{Configuration, lookup_of}
use Rattle.iocm_model.specs.Machine.Numbering.{Numbering}
use Rattle.iocm_derive.specs.Derived.{name_at}
use Rattle.iocm_reach.specs.SightedCells.{SightedCell, sighted_cell}
use Rattle.iocm_reach.specs.declared.walk.NamedImage.{NamedImage}

-- the names are those of the configuration's images, the image has its name, and what is kept of a
-- number cell is what is there
pub record IsWalking (c : Configuration) (n : Numbering) (names : Configuration) (image : Option NamedImage)
    (cell : Option SightedCell) : Type 0 where
  pub same_names : names ≡ c
  pub named : IfSome image (λ i. Some i.name ≡ name_at (lookup_of c) i.image)
  pub sighted : IfSome cell (λ s. s ≡ sighted_cell c n s.cell)
