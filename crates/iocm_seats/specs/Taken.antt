-- The number cells of a machine that are taken, as its opening goes over them.
use Rattle.std.specs.Prelude.{◌≡◌, ℕ, ◌==◌, Bool, true, not, if◌then◌else◌, List, [], ◌∷◌, map, filter, slice_get}
use Rattle.std.specs.Prelude.{Option, None, Some}
use Rattle.iocm_types.specs.declared.place.NumberCell.{NumberCell}
use Rattle.iocm_types.specs.declared.sub_id.SubId.{SubId}
use Rattle.iocm_model.specs.Machine.Record.{DeviceRecord}
use Rattle.iocm_model.specs.Machine.Configuration.{Lookup}
use Rattle.iocm_model.specs.Machine.View.{device_record}

-- the cells of a channel subsystem, with the numbers of their devices
abbrev pub cells_in : ℕ → List (NumberCell × ℕ) → List (NumberCell × ℕ)
cells_in css cells = filter (λ (e : NumberCell × ℕ). e.0.css == css) cells

-- what contracts see of a cell that is taken: the cell, the number of its device, and the device's
-- record, if it is there
pub record Taken : Type 0 where
  pub cell : NumberCell
  pub device : ℕ
  pub record_there : Option DeviceRecord

-- such a cell with the number of its device
abbrev pub taken : Taken → NumberCell × ℕ
taken t = (t.cell, t.device)

abbrev pub taken_of : List Taken → List (NumberCell × ℕ)
taken_of cells = map taken cells

-- the record is that of the device in a configuration, or there is none
abbrev pub IsTaken : Lookup → Taken → Type 0
IsTaken c t = t.record_there ≡ device_record c t.cell.set t.device

-- the last subchannel at a number cell: that of MIF image ID F
abbrev pub last_subchannel : NumberCell → SubId
last_subchannel cell = record { image = record { css = cell.css; mif = 15 }; set = cell.set; number = cell.number }

-- the number cells of a set end where the next one is of another, or there is none
abbrev pub ends_set : ℕ → Option Taken → Bool
ends_set set None = true
ends_set set (Some next) = not (next.cell.set == set)

-- the last subchannels of the sets of such cells
abbrev pub set_ends : List Taken → List SubId
set_ends [] = []
set_ends (t ∷ ts) = (if ends_set t.cell.set (slice_get ts 0) then last_subchannel t.cell ∷ set_ends ts else set_ends ts)
