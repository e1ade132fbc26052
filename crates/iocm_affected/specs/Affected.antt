-- Which places and images a change may affect: those at which a device may come in or leave, or be
-- seen differently.
use Rattle.std.specs.Prelude.{◌≡◌, ℕ, ◌<◌, true, false, List, Option, is_some}
use Rattle.std.specs.List.{list_any}
use Rattle.std.specs.Option.{option_and_then}
use Rattle.std.specs.Ordering.{eq_by_cmp}
use Rattle.iocm_types.specs.declared.image.Image as images
use Rattle.iocm_types.specs.declared.key.Key.TheVariants.{Image}
use Rattle.iocm_types.specs.declared.place.Place.{Place}
use Rattle.iocm_types.specs.declared.view.View.{View}
use Rattle.iocm_types.specs.Place.{place_cmp}
use Rattle.iocm_types.specs.SubId.{image_cmp}
use Rattle.iocm_model.specs.Machine.Record.{ImageRecord}
use Rattle.iocm_model.specs.Machine.Configuration.{Configuration, lookup_of, as_image}
use Rattle.iocm_model.specs.Machine.Numbering.{is_reached_at}
use Rattle.iocm_model.specs.Machine.View.{image_view}

-- what the image of a MIF image ID in a place's channel subsystem sees of the device at the place
abbrev pub sight_at : Configuration → ℕ → Place → Option View
sight_at c mif p = option_and_then (λ (i : ImageRecord). image_view (lookup_of c) i p.set p.device)
    (option_and_then as_image (lookup_of c (Image p.css mif)))

-- the image of a MIF image ID in a place's channel subsystem
abbrev pub image_at : ℕ → Place → images.Image
image_at mif p = record { css = p.css; mif = mif }

-- of two configurations, these places and images are all at which they may differ: at any other
-- place a device is reached as before and, in channel subsystems 0 to 5, each image sees there what
-- it saw; any other image sees everywhere what it saw; and where an image that is there at first
-- isn't among these, devices in its channel subsystem come in and leave nowhere
pub record AreAllAffected (c d : Configuration) (places : List Place) (seeing : List images.Image) : Type 0 where
  pub reached : (p : Place) → list_any (eq_by_cmp place_cmp p) places ≡ false → is_reached_at c p ≡ is_reached_at d p
  pub off_places : (p : Place) (mif : ℕ) → p.css < 6 → list_any (eq_by_cmp place_cmp p) places ≡ false
      → sight_at c mif p ≡ sight_at d mif p
  pub off_images : (p : Place) (mif : ℕ) → list_any (eq_by_cmp image_cmp (image_at mif p)) seeing ≡ false
      → sight_at c mif p ≡ sight_at d mif p
  pub stays : (p : Place) (mif : ℕ) → list_any (eq_by_cmp image_cmp (image_at mif p)) seeing ≡ false
      → is_some (option_and_then as_image (lookup_of c (Image p.css mif))) ≡ true
      → is_reached_at c p ≡ is_reached_at d p
