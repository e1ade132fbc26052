-- A number cell of a configuration, with the device there.
use Rattle.std.specs.Prelude.{ℕ, List, Option}
use Rattle.std.specs.Option.{option_and_then}
use Rattle.iocm_types.specs.declared.place.NumberCell.{NumberCell}
use Rattle.iocm_types.specs.declared.view.View.{View}
use Rattle.iocm_model.specs.Machine.Record.{DeviceRecord}
use Rattle.iocm_model.specs.Machine.Configuration.{Configuration, lookup_of}
use Rattle.iocm_model.specs.Machine.Numbering.{Numbering, device_at}
use Rattle.iocm_model.specs.Machine.View.{device_record, view_if_seen}

-- the configuration, the number cell, and the device that has the number
pub record SightedCell : Type 0 where
  pub records : Configuration
  pub cell : NumberCell
  pub device : Option DeviceRecord

-- the device of a number cell, if the number is one's and that is there
abbrev pub cell_device : Configuration → Numbering → NumberCell → Option DeviceRecord
cell_device c n cell = option_and_then (device_record (lookup_of c) cell.set) (device_at n cell)

-- a number cell by a configuration and its numbers
abbrev pub sighted_cell : Configuration → Numbering → NumberCell → SightedCell
sighted_cell c n cell = record { records = c; cell = cell; device = cell_device c n cell }

-- what the image of a name in the cell's channel subsystem sees there
abbrev pub seen_there : SightedCell → List ℕ → Option View
seen_there s name = option_and_then (view_if_seen (lookup_of s.records) s.cell.css name) s.device
