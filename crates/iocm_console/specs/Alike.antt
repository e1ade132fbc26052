-- Devices that an image sees alike, on the same control units, with the same candidates; and what an image sees
-- at a number cell and at the next cell.
use Rattle.std.specs.Prelude.{◌≡◌, ℕ, ◌==◌, ◌&&◌, Bool, List, ◌++◌, All, filter, Option, codes, ◌<◌, take, drop, IfSome}
use Rattle.std.specs.Option.{option_map, option_copied}
use Rattle.iocm_types.specs.Print.{hex4}
use Rattle.iocm_model.specs.Machine.Record.{DeviceRecord, ImageRecord}
use Rattle.iocm_model.specs.Machine.Configuration.{Configuration, Lookup, lookup_of}
use Rattle.iocm_model.specs.Machine.View.{device_record}
use Rattle.iocm_record.specs.Meaning.{device_of}
use Rattle.iocm_console.specs.declared.cells.CellDevice.{CellDevice}
use Rattle.iocm_console.specs.declared.like_devices.LikeDevice.{LikeDevice}
use Rattle.iocm_types.specs.declared.sub_id.SubId.{SubId}
use Rattle.iocm_types.specs.declared.view.View.{View}
use Rattle.iocm_console.specs.declared.seen.Seen.{Seen}
use Rattle.iocm_lines.specs.Told.{with_device}
use Rattle.iocm_console.specs.Lines.{image_of, line_at, seen_at, subchannel_at}

-- by what an image sees a device: its control units and its candidates
abbrev pub seen_by : DeviceRecord → List ℕ × Option (List (List ℕ))
seen_by d = (d.units, d.candidates)

-- two devices of a set have the same control units and the same candidates, or neither is there
abbrev pub AreAlike : Lookup → ℕ → ℕ → ℕ → Type 0
AreAlike c set a b = option_map seen_by (device_record c set a) ≡ option_map seen_by (device_record c set b)

-- what is noted of the numbers of a cell and of its device is how they are printed
abbrev pub IsPrinted : CellDevice → Type 0
IsPrinted e = e.numbers ≡ hex4 e.cell.number ++ (codes " " ++ hex4 e.device)

-- the device of a number cell is like the one that is noted there, and the numbers are as printed
abbrev pub IsAlike : Lookup → CellDevice → Type 0
IsAlike c e = AreAlike c e.cell.set e.like e.device × IsPrinted e

-- a number cell is of a channel subsystem
abbrev pub is_of : ℕ → CellDevice → Bool
is_of css e = e.cell.css == css

-- cells that serve for a channel subsystem in place of all cells: its own are the same, and each is
-- alike if all are
pub record ServeFor (css : ℕ) (some all : List CellDevice) : Type 0 where
  pub own : filter (is_of css) some ≡ filter (is_of css) all
  pub alike : (c : Lookup) → All (IsAlike c) all → All (IsAlike c) some

-- two number cells are of one channel subsystem and set, and the same device is noted at both
abbrev pub are_like : CellDevice → CellDevice → Bool
are_like a b = (a.cell.css == b.cell.css) && (a.cell.set == b.cell.set) && (a.like == b.like)

-- the configuration of the devices that are compared
abbrev pub devices_of : {A : Type 0} → LikeDevice A → Configuration
devices_of d = d.devices

-- the fields are those of the device, or it isn't there
abbrev pub IsThere : {A : Type 0} → LikeDevice A → Type 0
IsThere d = option_map device_of (option_copied d.fields) ≡ device_record (lookup_of (devices_of d)) d.set d.device

-- the cells so far are alike, and this device of the same configuration is there for the next
abbrev pub AreCompared : {A : Type 0} → LikeDevice A → List CellDevice → Type 0
AreCompared last cells = IsThere last × All (IsAlike (lookup_of (devices_of last))) cells

-- a line with this subchannel number and this device number in their places
abbrev pub with_numbers : ℕ → ℕ → List ℕ → List ℕ
with_numbers number device line = take 11 line ++ (hex4 number ++ (codes " " ++ (hex4 device ++ drop 20 line)))

-- the numbers of a subchannel and of a device have no more digits than a line has places for
pub record HaveDigits (x : SubId) (d : ℕ) : Type 0 where
  pub css : x.image.css < 16
  pub mif : x.image.mif < 16
  pub set : x.set < 16
  pub number : x.number < 65536
  pub device : d < 65536

-- what is seen of the device of this number: all but the number is that of a device that is like it
abbrev pub view_of : Seen → ℕ → Option View
view_of seen number = option_map (with_device number) seen.view

-- this is what the image sees at a number cell; the device there is like the one that is noted
pub record IsSeenAt (c : Lookup) (i : ImageRecord) (seen : Seen) (e : CellDevice) : Type 0 where
  pub alike : IsAlike c e
  pub view : view_of seen e.device ≡ seen_at c i (e.cell, e.device)
  pub line : seen.line.items ≡ line_at (subchannel_at (image_of i) e.cell) (view_of seen e.device)

-- the same of the last number cell, if there was one
abbrev pub IsSeen : Lookup → ImageRecord → Option CellDevice → Seen → Type 0
IsSeen c i last seen = IfSome last (IsSeenAt c i seen)
