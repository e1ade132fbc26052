-- The places that a key leads to by who names whom, and the images that look at its record.
use Rattle.std.specs.Prelude.{◌≡◌, ℕ, ◌==◌, ◌&&◌, Bool, true, false, not, List, [], ◌∷◌, ◌++◌, map, Option, Some}
use Rattle.std.specs.Prelude.{if◌then◌else◌}
use Rattle.std.specs.List.{flat_map, list_any}
use Rattle.std.specs.Ordering.{eq_by_cmp}
use Rattle.iocm_types.specs.declared.image.Image as images
use Rattle.iocm_types.specs.declared.key.Key.{Key}
use Rattle.iocm_types.specs.declared.key.Key.TheVariants as key
use Rattle.iocm_types.specs.declared.named.Named.{Named}
use Rattle.iocm_types.specs.declared.named.Named.TheVariants as thing
use Rattle.iocm_types.specs.declared.naming.Naming.{Naming}
use Rattle.iocm_types.specs.declared.place.Place.{Place}
use Rattle.iocm_types.specs.Key.{key_cmp}
use Rattle.iocm_types.specs.Naming.{naming_cmp}
use Rattle.iocm_types.specs.Place.{place_cmp}
use Rattle.iocm_table.specs.Slots.{Stored, rows}
use Rattle.iocm_model.specs.Machine.Record.{Rec, image}
use Rattle.iocm_model.specs.Machine.Configuration.{Configuration, records_of}
use Rattle.iocm_model.specs.Machine.Numbering.{subsystems}
use Rattle.iocm_model.specs.Machine.Sight.{record_lists}
use Rattle.iocm_model.specs.Rules.EachRule.{same_name}
use Rattle.iocm_index.specs.Namings.{users_in}

-- the keys of the records that name a thing
abbrev pub users_of : Stored Naming (Unit {0}) → Named → List Key
users_of t named = users_in named (rows naming_cmp t)

-- the places of a device in some channel subsystems; what is no device has none
abbrev pub places_of : List ℕ → Key → List Place
places_of within (key.Device set number) = map (λ css. record { css = css; set = set; device = number }) within
places_of within _ = []

-- those of the devices that name a unit
abbrev pub places_of_unit : Stored Naming (Unit {0}) → List ℕ → Key → List Place
places_of_unit t within unit = flat_map (places_of within) (users_of t (thing.Record unit))

-- the same, where a key is that of a unit
abbrev pub places_on_unit : Stored Naming (Unit {0}) → List ℕ → Key → List Place
places_on_unit t within (key.Unit number) = places_of_unit t within (key.Unit number)
places_on_unit t within _ = []

-- those of the devices on the units among some keys, in one channel subsystem
abbrev pub places_on_units : Stored Naming (Unit {0}) → ℕ → List Key → List Place
places_on_units t css units = flat_map (places_on_unit t (css ∷ [])) units

-- those of the devices on the units that name a path, in one channel subsystem
abbrev pub places_of_path : Stored Naming (Unit {0}) → ℕ → Key → List Place
places_of_path t css path = places_on_units t css (users_of t (thing.Record path))

-- the users of a path, its units among them, where a key is that of a path of the channel subsystem
abbrev pub users_on_path : Stored Naming (Unit {0}) → ℕ → Key → List Key
users_on_path t css (key.Path of number) = if of == css then users_of t (thing.Record (key.Path of number)) else []
users_on_path t css _ = []

-- the users of the paths of a channel subsystem that name an image
abbrev pub users_of_name : Stored Naming (Unit {0}) → ℕ → List ℕ → List Key
users_of_name t css name = flat_map (users_on_path t css) (users_of t (thing.Image name))

-- the places of the devices on the units among them
abbrev pub places_of_name : Stored Naming (Unit {0}) → ℕ → List ℕ → List Place
places_of_name t css name = places_on_units t css (users_of_name t css name)

-- those that the name of an image record leads to
abbrev pub places_of_image : Stored Naming (Unit {0}) → ℕ → Option Rec → List Place
places_of_image t css (Some (image r)) = places_of_name t css r.name
places_of_image t css _ = []

-- the places to which a key leads, whose record was one and is another
abbrev pub led_places : Stored Naming (Unit {0}) → Key → Option Rec → Option Rec → List Place
led_places t (key.Device set number) before after = places_of subsystems (key.Device set number)
led_places t (key.Unit number) before after = places_on_unit t subsystems (key.Unit number)
led_places t (key.Path css number) before after = places_of_path t css (key.Path css number)
led_places t (key.Online css number name) before after = places_of_path t css (key.Path css number)
led_places t (key.Image css mif) before after = places_of_image t css before ++ places_of_image t css after
led_places t _ before after = []

-- the same places, in whatever order and each however often; and the same keys
abbrev pub AreSamePlaces : List Place → List Place → Type 0
AreSamePlaces xs ys = (p : Place) → list_any (eq_by_cmp place_cmp p) xs ≡ list_any (eq_by_cmp place_cmp p) ys

abbrev pub AreSameKeys : List Key → List Key → Type 0
AreSameKeys xs ys = (k : Key) → list_any (eq_by_cmp key_cmp k) xs ≡ list_any (eq_by_cmp key_cmp k) ys

-- a choice of images, by their channel subsystems and their names
abbrev pub Choice : Type 0
Choice = ℕ → List ℕ → Bool

-- all images
abbrev pub all_images : Choice
all_images css name = true

-- the image of a name in a channel subsystem
abbrev pub image_named : ℕ → List ℕ → Choice
image_named within of css name = css == within && same_name of name

-- one of two things is so, and the other isn't
abbrev pub is_one_alone : Bool → Bool → Bool
is_one_alone true other = not other
is_one_alone false other = other

-- those in a channel subsystem that one of two records of a path lists, and the other doesn't
abbrev pub listed_otherwise : ℕ → Option Rec → Option Rec → Choice
listed_otherwise within before after css name =
    css == within && is_one_alone (record_lists name before) (record_lists name after)

-- the image of a record, if it is that of one of a choice
abbrev pub images_at : Choice → Rec → List images.Image
images_at choice (image r) = if choice r.css r.name then record { css = r.css; mif = r.mif } ∷ [] else []
images_at choice _ = []

-- the images of a choice
abbrev pub images_in : Choice → Configuration → List images.Image
images_in choice c = flat_map (images_at choice) (records_of c)

-- the images that look at the record of a key, which was one and is another
abbrev pub led_images : Configuration → Key → Option Rec → Option Rec → List images.Image
led_images c (key.Image css mif) before after = record { css = css; mif = mif } ∷ []
led_images c (key.Path css number) before after = images_in (listed_otherwise css before after) c
led_images c (key.Online css number name) before after = images_in (image_named css name) c
led_images c (key.Unit number) before after = images_in all_images c
led_images c (key.Device set number) before after = images_in all_images c
led_images c _ before after = []
