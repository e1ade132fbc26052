-- What plans promise.
use Rattle.std.specs.Prelude.{◌≡◌, ◌<◌, ℕ, false, Option, None, Some}
use Rattle.std.specs.FinMap.{get}
use Rattle.iocm_types.specs.declared.image.Image.{Image}
use Rattle.iocm_types.specs.declared.key.Key.{Key}
use Rattle.iocm_types.specs.declared.place.Place.{Place}
use Rattle.iocm_types.specs.declared.sub_id.SubId.{SubId}
use Rattle.iocm_types.specs.declared.view.View.{View}
use Rattle.iocm_model.specs.Machine.Configuration.{Configuration, IsKeyed, lookup_of}
use Rattle.iocm_model.specs.Machine.Numbering.{Numbering, AreNumbersOf}
use Rattle.iocm_model.specs.Machine.View.{view_at}
use Rattle.iocm_plan.specs.Effects.{gone, came, changed, same, lost, onepath, offon, interrupted, effect_between}
use Rattle.iocm_plan.specs.Effects.{affects}
use Rattle.iocm_plan.specs.Objects.{is_added, is_deleted, is_changed}
use Rattle.iocm_plan.specs.Seen.{Side, side, seen}

-- ---- what is seen of a device is the view at its subchannel

-- where a device has its number in the channel subsystem of an image, and the image's subchannel of a number
abbrev pub place_for : Image → ℕ → ℕ → Place
place_for i set device = record { css = i.css; set = set; device = device }

abbrev pub subchannel_for : Image → ℕ → ℕ → SubId
subchannel_for i set number = record { image = i; set = set; number = number }

-- at the device's number it is the view there, and without a number nothing is seen
pub record IsSeenByNumbers (c : Configuration) (n : Numbering) (i : Image) (set device : ℕ) : Type 0 where
  pub numbered : (number : ℕ) → get n (place_for i set device) ≡ Some number
      → seen (side (lookup_of c) i set device) ≡ view_at c n (subchannel_for i set number)
  pub unnumbered : get n (place_for i set device) ≡ None → seen (side (lookup_of c) i set device) ≡ None

-- by whatever numbers of the configuration
abbrev pub SeenIsTheView : Type 0
SeenIsTheView = (c : Configuration) (n : Numbering) → IsKeyed c → AreNumbersOf c n
    → (i : Image) (set device : ℕ) → i.css < 6 → set < 4 → IsSeenByNumbers c n i set device

-- ---- a configuration and itself

-- nothing is told of an image and a device
pub record NothingIsTold (s : Option Side) : Type 0 where
  pub not_gone : gone (seen s) (seen s) ≡ false
  pub not_come : came (seen s) (seen s) ≡ false
  pub not_changed : changed (seen s) (seen s) ≡ false
  pub not_lost : lost (seen s) (seen s) ≡ false
  pub not_one_path : onepath (seen s) (seen s) ≡ false
  pub not_off_and_on : offon s s ≡ false
  pub not_interrupted : interrupted s s ≡ false
  pub not_affected : affects (effect_between s s) ≡ false

-- nor of an object
pub record NoObjectIsTold (c : Configuration) (key : Key) : Type 0 where
  pub not_added : is_added c c key ≡ false
  pub not_deleted : is_deleted c c key ≡ false
  pub not_changed : is_changed c c key ≡ false

-- a plan of a configuration and itself tells nothing
abbrev pub PlanOfItself : Type 0
PlanOfItself = (s : Option Side) → NothingIsTold s

abbrev pub NoObjectDiffers : Type 0
NoObjectDiffers = (c : Configuration) (key : Key) → NoObjectIsTold c key

-- ---- the way back

-- what is gone one way has come the other way, and what differs or is the same does so both ways
pub record GoesBack (b a : Option View) : Type 0 where
  pub gone_comes : gone b a ≡ came a b
  pub come_goes : came b a ≡ gone a b
  pub changed_changes : changed b a ≡ changed a b
  pub same_is_same : same b a ≡ same a b

-- an object that is added one way is deleted the other way
pub record ObjectGoesBack (c d : Configuration) (key : Key) : Type 0 where
  pub added_goes : is_added c d key ≡ is_deleted d c key
  pub deleted_comes : is_deleted c d key ≡ is_added d c key

-- with the configurations exchanged gone and came, added and deleted change places
abbrev pub PlanGoesBack : Type 0
PlanGoesBack = (b a : Option View) → GoesBack b a

abbrev pub ObjectsGoBack : Type 0
ObjectsGoBack = (c d : Configuration) (key : Key) → ObjectGoesBack c d key
