-- The rows of `list images`: images, each with its paths and with how many devices it sees.
use Rattle.std.specs.Prelude.{ℕ, ◌&&◌, ◌||◌, not, Bool, List, length, map, filter}
use Rattle.std.specs.List.{filter_map, list_any}
use Rattle.iocm_types.specs.declared.image.Image.{Image}
use Rattle.iocm_model.specs.Machine.Configuration.{Configuration, lookup_of, records_of, as_image, devices_of}
use Rattle.iocm_model.specs.Machine.Record.{Rec, ImageRecord}
use Rattle.iocm_model.specs.Machine.Sight.{sees}
use Rattle.iocm_filter.specs.Wanted.{Wanted, asks, one_if_asked}
use Rattle.iocm_sight.specs.Counts.{paths_of, online_of, reaches_word, reaches_unit, seen_counts, numbers_in}
use Rattle.iocm_sight.specs.WantedRows.{wants_image, wants_number}
use Rattle.iocm_words.specs.declared.ranges.SetNumbers.{SetNumbers}

-- an image: the paths that it may use, and those of them that are online; the devices that it sees, and those of them
-- without a path online, or with one; the subchannel numbers of the sets in use in its channel subsystem
pub record ImageRow : Type 0 where
  pub image : Image
  pub name : List ℕ
  pub paths : ℕ
  pub online : ℕ
  pub devices : ℕ
  pub no_path : ℕ
  pub one_path : ℕ
  pub numbers : List SetNumbers

abbrev pub image_row : Configuration → ImageRecord → ImageRow
image_row c i = let at = lookup_of c in let seen = seen_counts at i (devices_of c) in record {
  image = record { css = i.css; mif = i.mif };
  name = i.name;
  paths = length (paths_of at i.css i.name);
  online = length (online_of at i.css i.name);
  devices = seen.devices;
  no_path = seen.no_path;
  one_path = seen.one_path;
  numbers = numbers_in c i.css;
}

-- an image sees a device that is asked for
abbrev pub sees_asked : Wanted → Configuration → ImageRecord → Bool
sees_asked w c i = not (asks w.devices)
    || list_any (sees (lookup_of c) i.css i.name) (filter (wants_number w) (devices_of c))

-- the row of an image is listed if it is asked for itself, and is connected with what else is asked for
abbrev pub is_image_listed : Wanted → Configuration → ImageRecord → Bool
is_image_listed w c i = wants_image w i
    && one_if_asked (reaches_word (lookup_of c) i.css i.name) w.paths
    && one_if_asked (reaches_unit (lookup_of c) i.css i.name) w.units
    && sees_asked w c i

-- the rows of the images among these records that are listed, and those of a configuration
abbrev pub rows_in : Wanted → Configuration → List Rec → List ImageRow
rows_in w c rs = map (image_row c) (filter (is_image_listed w c) (filter_map as_image rs))

abbrev pub image_rows : Wanted → Configuration → List ImageRow
image_rows w c = rows_in w c (records_of c)
