-- Tables of the devices and the images of the small configuration, computed.
use Rattle.std.proofs.Common.{◌≡◌, ◌==◌, ◌&&◌, ◌||◌, not, List, map, filter, length, refl, ap, ◌∙◌}
use Rattle.std.specs.FinMap.{entries, find, get-entries}
use Rattle.std.specs.Fmt.{char_count, digits, padded_integral}
use Rattle.std.specs.List.{filter_map, list_any}
use Rattle.iocm_types.specs.declared.key.Key.{Key}
use Rattle.iocm_types.specs.declared.key.Key.TheVariants.{Limit}
use Rattle.iocm_types.specs.Key.{key_cmp}
use Rattle.iocm_model.specs.Machine.Configuration.{Configuration, Lookup, lookup_of, records_of, as_device, as_image}
use Rattle.iocm_model.specs.Machine.Configuration.{with_keys}
use Rattle.iocm_model.specs.Machine.Numbering.{sets}
use Rattle.iocm_model.specs.Machine.Record.{Rec, DeviceRecord, ImageRecord}
use Rattle.iocm_model.specs.Machine.Sight.{sees}
use Rattle.iocm_model.specs.Rules.EachRule.{limit_or_default}
use Rattle.iocm_filter.proofs.WorkedRows.{in_order}
use Rattle.iocm_filter.specs.Wanted.{Wanted, asks, nothing, one_if_asked}
use Rattle.iocm_words.specs.Table.{table_text}
use Rattle.iocm_words.specs.declared.ranges.SetNumbers.{SetNumbers}
use Rattle.iocm_list.specs.DeviceCells.{image_cells, image_columns}
use Rattle.iocm_list.specs.DeviceExamples.{AllAreTold, DevicesAreLeft, DevicesAreListed, seen_configuration}
use Rattle.iocm_list.specs.DeviceExamples.{seen_records}
use Rattle.iocm_list.specs.ImageRows.{ImageRow, image_rows}
use Rattle.iocm_sight.specs.Counts.{is_in, numbers_in, online_of, path_numbers, paths_of}
use Rattle.iocm_sight.specs.Counts.{reaches_unit, reaches_word, seen_counts}
use Rattle.iocm_sight.specs.WantedRows.{wants_image, wants_number}

-- ---- the rows of images by what is found, and by all records

image_by : Lookup → List Rec → ImageRecord → ImageRow
image_by at rs i = let seen = seen_counts at i (filter_map as_device rs) in record {
  image = record { css = i.css; mif = i.mif };
  name = i.name;
  paths = length (paths_of at i.css i.name);
  online = length (online_of at i.css i.name);
  devices = seen.devices;
  no_path = seen.no_path;
  one_path = seen.one_path;
  numbers = filter (λ (s : SetNumbers). not (s.used == 0)) (map (λ set. record {
    set = set;
    used = length (map (λ (d : DeviceRecord). d.number) (filter (is_in at i.css set) (filter_map as_device rs)));
    limit = limit_or_default set (at (Limit i.css set));
  }) sets);
}

images_by : Wanted → Lookup → List Rec → List ImageRow
images_by w at rs = map (image_by at rs) (filter (λ (i : ImageRecord). wants_image w i
    && one_if_asked (reaches_word at i.css i.name) w.paths
    && one_if_asked (reaches_unit at i.css i.name) w.units
    && (not (asks w.devices)
    || list_any (sees at i.css i.name) (filter (wants_number w) (filter_map as_device rs)))) (filter_map as_image rs))

images_are : (w : Wanted) (c : Configuration) → image_rows w c ≡ images_by w (lookup_of c) (records_of c)
unfolding images_by image_by numbers_in
images_are w c = refl

found : Lookup
found key = find key_cmp key (with_keys seen_records)

module _ (c : Configuration) (e : entries c ≡ with_keys seen_records) where
  finds : lookup_of c ≡ found
  unfolding found
  finds = λ i key. (get-entries c key ∙ ap (find key_cmp key) e) i

  images : (w : Wanted) → image_rows w c ≡ images_by w found seen_records
  images w = images_are w c ∙ (λ i. images_by w (finds i) (map (λ (r : Key × Rec). r.1) (e i)))

  left : DevicesAreLeft c
  unfolding path_numbers lib.Count.ones
  left = record {
    ranges = simp (get-entries, e);
    image = simp (get-entries, e);
    image_online = simp (get-entries, e);
    one_path = simp (get-entries, e);
    no_path = simp (get-entries, e);
    no_unit = simp (get-entries, e);
    path_images = simp (get-entries, e);
    unit_images = simp (get-entries, e);
    no_unit_images = simp (get-entries, e);
    device_images = simp (get-entries, e);
    both_images = simp (get-entries, e);
  }

  listed : DevicesAreListed c
  unfolding images_by image_by found digits padded_integral char_count path_numbers lib.Count.ones
  listed = record {
    devices = simp (get-entries, e);
    test_devices = simp (get-entries, e);
    images = ap (λ (rows : List ImageRow). table_text image_columns (map image_cells rows)) (images nothing);
  }

pub all_told : AllAreTold
unfolding digits padded_integral char_count
all_told = record { both = refl; two_of_three = refl; not_alike = refl; alone = refl }

pub devices_left : DevicesAreLeft seen_configuration
devices_left = left seen_configuration (in_order seen_records tt)

pub devices_listed : DevicesAreListed seen_configuration
devices_listed = listed seen_configuration (in_order seen_records tt)

pub ruleset worked = (devices_left, devices_listed, all_told)
