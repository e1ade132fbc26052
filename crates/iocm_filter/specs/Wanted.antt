-- Which subchannels of a table are wanted: what is asked for, and what it means of a subchannel with
-- its view.
use Rattle.std.specs.Prelude.{◌≡◌, ℕ, Bool, true, false, not, ◌==◌, ◌&&◌, ◌||◌, nat_eq, nat_le, count_ones}
use Rattle.std.specs.Prelude.{List, [], ◌∷◌, Option, None, Some}
use Rattle.std.specs.FinMap.{entries}
use Rattle.std.specs.List.{list_any}
use Rattle.std.specs.Ordering.{eq_by_cmp}
use Rattle.iocm_types.specs.Key.{key_cmp}
use Rattle.iocm_types.specs.declared.image.Image.{Image}
use Rattle.iocm_types.specs.declared.key.Key.{Key}
use Rattle.iocm_types.specs.declared.key.Key.TheVariants as key
use Rattle.iocm_types.specs.declared.sub_id.SubId.{SubId}
use Rattle.iocm_types.specs.declared.view.View.{View}
use Rattle.iocm_model.specs.Machine.Record.{Rec, image, device, key_of}
use Rattle.iocm_model.specs.Machine.Configuration.{Configuration}
use Rattle.iocm_model.specs.Rules.EachRule.{same_name}
use Rattle.iocm_filter.specs.declared.meant.DeviceRange.{DeviceRange}
use Rattle.iocm_filter.specs.declared.meant.ImageWord.{ImageWord}
use Rattle.iocm_filter.specs.declared.meant.ImageWord.TheVariants.{Place, Named}
use Rattle.iocm_filter.specs.declared.meant.PathWord.{PathWord}

-- what is asked for: images, devices, control units, paths, and how many paths are online at most
pub record Wanted : Type 0 where
  pub images : List ImageWord
  pub devices : List DeviceRange
  pub units : List ℕ
  pub paths : List PathWord
  pub online : List ℕ

-- something of a kind is asked for
abbrev pub asks : {A : Type 0} → List A → Bool
asks [] = false
asks (x ∷ xs) = true

-- nothing of a kind is asked for, or one of what is
abbrev pub one_if_asked : {A : Type 0} → (A → Bool) → List A → Bool
one_if_asked is_so xs = not (asks xs) || list_any is_so xs

-- the image at a place is asked for by its place; an image of a name is by its name
abbrev pub is_at : Image → ImageWord → Bool
is_at i (Place at) = at.css == i.css && at.mif == i.mif
is_at i (Named name) = false

abbrev pub is_named : List ℕ → ImageWord → Bool
is_named own (Place at) = false
is_named own (Named name) = same_name name own

-- a device number of a subchannel set is in a range
abbrev pub is_within : ℕ → ℕ → DeviceRange → Bool
is_within set number r = set == r.set && nat_le r.first number && nat_le number r.last

-- one of these control units is among others
abbrev pub have_common : List ℕ → List ℕ → Bool
have_common units others = list_any (λ unit. list_any (nat_eq unit) others) units

-- a record is that of an image that is asked for by its name, or of a device on a control unit that is
abbrev pub is_sought : Wanted → Rec → Bool
is_sought w (image i) = list_any (is_named i.name) w.images
is_sought w (device d) = have_common w.units d.units
is_sought w _ = false

-- the keys of such records; a key is that of one among some entries
abbrev pub Found : Type 0
Found = Key → Bool

abbrev pub found_among : Wanted → List (Key × Rec) → Found
found_among w es key = list_any (λ (e : Key × Rec). is_sought w e.1 && eq_by_cmp key_cmp key (key_of e.1)) es

-- a word means the paths of its channel subsystem, or of each if it names none
abbrev pub means_subsystem : Option ℕ → ℕ → Bool
means_subsystem None css = true
means_subsystem (Some own) css = css == own

-- it means a path: one of this number
abbrev pub means_path : PathWord → ℕ → ℕ → Bool
means_path p css path = means_subsystem p.css css && path == p.path

-- a view in a channel subsystem has a path that is meant
abbrev pub has_path : ℕ → View → PathWord → Bool
has_path css v p = list_any (means_path p css) v.paths

-- of the paths of a view so many are online, or fewer
abbrev pub has_at_most : View → ℕ → Bool
has_at_most v most = nat_le (count_ones v.pam) most

-- what is asked for of images, of devices and their control units, and of paths
abbrev pub wants_image : Wanted → Found → Image → Bool
wants_image w found i = one_if_asked (is_at i) w.images || found (key.Image i.css i.mif)

abbrev pub wants_device : Wanted → Found → ℕ → ℕ → Bool
wants_device w found set number =
    one_if_asked (is_within set number) w.devices && (not (asks w.units) || found (key.Device set number))

abbrev pub wants_view : Wanted → ℕ → View → Bool
wants_view w css v = one_if_asked (has_path css v) w.paths && one_if_asked (has_at_most v) w.online

-- a subchannel with its view is one of what is asked for of each kind
abbrev pub wants : Wanted → Found → SubId × View → Bool
wants w found row = wants_image w found row.0.image
    && wants_device w found row.0.set row.1.device
    && wants_view w row.0.image.css row.1

-- it is wanted in a configuration, of which the images have the names and the devices the control units
abbrev pub wanted : Wanted → Configuration → SubId × View → Bool
wanted w c row = wants w (found_among w (entries c)) row

-- nothing is asked for
abbrev pub nothing : Wanted
nothing = record { images = []; devices = []; units = []; paths = []; online = [] }

abbrev pub asks_nothing : Wanted → Bool
asks_nothing w = not (asks w.images) && not (asks w.devices) && not (asks w.units)
    && not (asks w.paths) && not (asks w.online)

-- where nothing is asked for, each row is wanted
abbrev pub NothingIsAll : Type 0
NothingIsAll = (w : Wanted) → asks_nothing w ≡ true → (c : Configuration) (row : SubId × View) → wanted w c row ≡ true
