-- A machine whose subchannels are asked for their views one after the other.
use Rattle.std.specs.Prelude.{ℕ, List, Option}
use Rattle.iocm_types.specs.declared.place.NumberCell.{NumberCell}
use Rattle.iocm_types.specs.declared.sub_id.SubId.{SubId}
use Rattle.iocm_types.specs.declared.view.View.{View}
use Rattle.iocm_model.specs.Machine.Configuration.{Configuration}
use Rattle.iocm_model.specs.Machine.Numbering.{Numbering}
use Rattle.iocm_reach.specs.SightedCells.{sighted_cell, seen_there}

-- the configuration and the numbers
pub record Walked : Type 0 where
  pub records : Configuration
  pub numbers : Numbering

-- the number cell of a subchannel
abbrev pub cell_at : SubId → NumberCell
cell_at x = record { css = x.image.css; set = x.set; number = x.number }

-- what an image of this name in the channel subsystem sees at a subchannel's number cell
abbrev pub seen_as : Walked → SubId → List ℕ → Option View
seen_as w x name = seen_there (sighted_cell w.records w.numbers (cell_at x)) name
