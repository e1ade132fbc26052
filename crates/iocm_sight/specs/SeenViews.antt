-- What a row says that an image sees of devices is what the image sees at their subchannels.
use Rattle.std.specs.Prelude.{◌≡◌, ◌<◌, ℕ, None, Some, is_some}
use Rattle.std.specs.Option.{option_and_then}
use Rattle.std.specs.FinMap.{get}
use Rattle.iocm_types.specs.declared.key.Key.TheVariants as key
use Rattle.iocm_types.specs.declared.place.Place.{Place}
use Rattle.iocm_types.specs.declared.sub_id.SubId.{SubId}
use Rattle.iocm_model.specs.Machine.Configuration.{Configuration, IsKeyed, lookup_of}
use Rattle.iocm_model.specs.Machine.Numbering.{Numbering, AreNumbersOf}
use Rattle.iocm_model.specs.Machine.Record.{ImageRecord, DeviceRecord, image, device}
use Rattle.iocm_model.specs.Machine.Sight.{sees}
use Rattle.iocm_model.specs.Machine.View.{view_at, view_if_seen}
use Rattle.iocm_filter.specs.Wanted.{Wanted}
use Rattle.iocm_sight.specs.Counts.{has_online, sees_with}
use Rattle.iocm_sight.specs.Seen.{seen_if_wanted, seen_of}

-- where a device has its number in the channel subsystem of an image, and the image's subchannel of a number
abbrev pub place_for : ImageRecord → DeviceRecord → Place
place_for i d = record { css = i.css; set = d.set; device = d.number }

abbrev pub subchannel_for : ImageRecord → DeviceRecord → ℕ → SubId
subchannel_for i d number =
    record { image = record { css = i.css; mif = i.mif }; set = d.set; number = number }

-- an image and a device of a configuration, in a channel subsystem and a set that there are
pub record AreThere (c : Configuration) (i : ImageRecord) (d : DeviceRecord) : Type 0 where
  pub image_there : lookup_of c (key.Image i.css i.mif) ≡ Some (image i)
  pub device_there : lookup_of c (key.Device d.set d.number) ≡ Some (device d)
  pub subsystem : i.css < 6
  pub set : d.set < 4

-- at the device's number it is the view there: what a row of devices has of the image, whether a row of images counts
-- the device, and among those with so many paths online; without a number the image sees nothing
pub record IsSeenByNumbers (w : Wanted) (c : Configuration) (n : Numbering) (i : ImageRecord) (d : DeviceRecord)
    : Type 0 where
  pub numbered : (number : ℕ) → get n (place_for i d) ≡ Some number
      → seen_of w (lookup_of c) d i
      ≡ option_and_then (seen_if_wanted w i) (view_at c n (subchannel_for i d number))
  pub counted : (number : ℕ) → get n (place_for i d) ≡ Some number
      → sees (lookup_of c) i.css i.name d ≡ is_some (view_at c n (subchannel_for i d number))
  pub counted_with : (number online : ℕ) → get n (place_for i d) ≡ Some number
      → sees_with online (lookup_of c) i d ≡ has_online online (view_at c n (subchannel_for i d number))
  pub unnumbered : get n (place_for i d) ≡ None → view_if_seen (lookup_of c) i.css i.name d ≡ None

-- by whatever numbers of the configuration
abbrev pub SeenIsTheView : Type 0
SeenIsTheView = (w : Wanted) (c : Configuration) (n : Numbering) → IsKeyed c → AreNumbersOf c n
    → (i : ImageRecord) (d : DeviceRecord) → AreThere c i d → IsSeenByNumbers w c n i d
