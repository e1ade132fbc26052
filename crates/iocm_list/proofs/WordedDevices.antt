-- Each cell of a row of devices or of images is a word, so the tables are read again.
use Rattle.std.proofs.Common.{◌≡◌, ℕ, ◌+◌, ◌-◌, ◌==◌, ◌&&◌, Bool, true, false, cond, Option}
use Rattle.std.proofs.Common.{None, Some, List, [], ◌∷◌, map, filter, length}
use Rattle.std.proofs.Common.{refl, arith}
use Rattle.std.proofs.lemmas.Bool.{and_from, and_parts}
use Rattle.std.specs.Prelude.{count_ones, nat_lt}
use Rattle.std.specs.List.{cons_option, filter_map, list_all}
use Rattle.std.specs.Option.{option_and_then}
use Rattle.iocm_types.specs.declared.image.Image.{Image}
use Rattle.iocm_types.specs.declared.view.View.{View}
use Rattle.iocm_types.specs.Name.{is_name}
use Rattle.iocm_types.specs.Print.{hex1, hex4}
use Rattle.iocm_model.specs.Machine.Configuration.{Configuration, Lookup, lookup_of, devices_of, images_of}
use Rattle.iocm_model.specs.Machine.Record.{DeviceRecord, ImageRecord}
use Rattle.iocm_model.specs.Machine.View.{view_if_seen}
use Rattle.iocm_filter.specs.Wanted.{Wanted}
use Rattle.iocm_deck_writer.specs.Device.{runs}
use Rattle.iocm_words.specs.Again.{is_row, is_word}
use Rattle.iocm_words.specs.CellWords.{have_names}
use Rattle.iocm_words.specs.Images.{all_images_word, images_word}
use Rattle.iocm_words.specs.Ranges.{set_word}
use Rattle.iocm_words.proofs.CellWords.{cells_are_words}
use Rattle.iocm_words.proofs.Reading.{tables_again}
use Rattle.iocm_words.proofs.Wording.{hex1_word, inside_both, is_word_if, word_before}
use Rattle.iocm_list.specs.DeviceCells.{counts_of, device_cells, device_columns, image_cells, image_columns, image_word}
use Rattle.iocm_list.specs.DeviceCells.{unlinked}
use Rattle.iocm_list.specs.DeviceRows.{DeviceRow, device_row, device_rows, is_listed}
use Rattle.iocm_list.specs.DevicesAgain.{DeviceTableIsReadAgain, HasImageNames, ImageTableIsReadAgain}
use Rattle.iocm_list.specs.ImageRows.{ImageRow, image_row, image_rows, is_image_listed}
use Rattle.iocm_sight.specs.Seen.{seen_if_wanted, seen_of}
use Rattle.iocm_sight.specs.WantedRows.{wants_image, wants_number, wants_online}
use Rattle.iocm_sight.specs.declared.seen_by.SeenBy.{SeenBy}
use Rattle.iocm_list.proofs.WordedRows.{all_filter, all_map, each_map, units_word}

-- ---- the names of images that see a device

has_name : SeenBy → Bool
has_name s = is_name s.name

is_named : ImageRecord → Bool
is_named i = is_name i.name

module _ (w : Wanted) (c : Lookup) (d : DeviceRecord) where
  named_seen : (is : List ImageRecord) → list_all is_named is ≡ true
      → list_all has_name (filter_map (seen_of w c d) is) ≡ true
  unfolding is_named has_name
  named_seen [] all = refl
  named_seen (i ∷ is) all = let both = and_parts (is_named i) (list_all is_named is) all in
      by (view_if_seen c i.css i.name d) both.0 (named_seen is both.1)
    where
      by : (o : Option View) → is_named i ≡ true → list_all has_name (filter_map (seen_of w c d) is) ≡ true
          → list_all has_name (cons_option (option_and_then (seen_if_wanted w i) o) (filter_map (seen_of w c d) is))
          ≡ true
      by None first rest = rest
      by (Some v) first rest = if_wanted (wants_online w v)
        where
          if_wanted : (b : Bool) → list_all has_name (cons_option (cond b (Some (record {
            image = record { css = i.css; mif = i.mif };
            name = i.name;
            installed = count_ones v.pim;
            online = count_ones v.pam;
          })) None) (filter_map (seen_of w c d) is)) ≡ true
          if_wanted true = and_from (is_named i) (list_all has_name (filter_map (seen_of w c d) is)) first rest
          if_wanted false = rest

-- ---- cells

counted : (seen : List SeenBy) → list_all has_name seen ≡ true → have_names (map counts_of seen)
unfolding has_name
counted seen all = all_map _ has_name counts_of (λ s is. is) seen all

seen_by_all : (b : Bool) (seen : List SeenBy) → list_all has_name seen ≡ true
    → is_word (cond b (all_images_word (map counts_of seen)) (images_word (map counts_of seen))) ≡ true
seen_by_all true seen all = cells_are_words.all_images (map counts_of seen) (counted seen all)
seen_by_all false seen all = cells_are_words.images (map counts_of seen) (counted seen all)

device_is_row : (all : ℕ) (r : DeviceRow) → list_all has_name r.images ≡ true
    → is_row device_columns (device_cells all r) ≡ true
device_is_row all r names =
    and_from _ _ (cells_are_words.devices (record { set = r.set; first = r.first; last = r.first + r.count - 1 }))
    (and_from _ _ (cells_are_words.count r.count)
    (and_from _ _ (cells_are_words.carried r.device_type)
    (and_from _ _ (cells_are_words.commas (map hex4 r.units) (units_word r.units))
    (and_from _ _ (cells_are_words.addresses r.unit_address (r.unit_address + r.count - 1))
    (and_from _ _ (cells_are_words.paths (map unlinked r.paths))
    (and_from _ _ (seen_by_all (nat_lt 1 all && length r.images == all) r.images names) refl))))))

image_is : (i : Image) → is_word (image_word i) ≡ true
image_is i = is_word_if (image_word i) (word_before (hex1 i.css) (46 ∷ hex1 i.mif) (hex1_word i.css)
    (inside_both (46 ∷ []) (hex1 i.mif) refl (hex1_word i.mif).inside))

image_is_row : (c : Configuration) (i : ImageRecord) → is_named i ≡ true
    → is_row image_columns (image_cells (image_row c i)) ≡ true
unfolding is_named
image_is_row c i named = let r = image_row c i in
    and_from _ _ (image_is r.image)
    (and_from _ _ (cells_are_words.name r.name named)
    (and_from _ _ (cells_are_words.count r.paths)
    (and_from _ _ (cells_are_words.count r.online)
    (and_from _ _ (cells_are_words.count r.devices)
    (and_from _ _ (cells_are_words.count r.no_path)
    (and_from _ _ (cells_are_words.count r.one_path)
    (and_from _ _ (cells_are_words.commas (map set_word r.numbers)
    (each_map is_word set_word cells_are_words.numbers r.numbers)) refl)))))))

-- ---- tables

has_names : DeviceRow → Bool
has_names r = list_all has_name r.images

named_rows : (w : Wanted) (c : Configuration) → HasImageNames c → list_all has_names (device_rows w c) ≡ true
unfolding has_names is_named
named_rows w c names = all_filter has_names (is_listed w)
    (map (device_row w c) (runs (filter (wants_number w) (devices_of c))))
    (each_map has_names (device_row w c) (λ r. named_seen w (lookup_of c) r.first (filter (wants_image w) (images_of c))
    (all_filter is_named (wants_image w) (images_of c) names))
    (runs (filter (wants_number w) (devices_of c))))

pub device_table_again : DeviceTableIsReadAgain
unfolding has_names
device_table_again w c names =
    let all = length (images_of c) in
    tables_again device_columns (map (device_cells all) (device_rows w c)) (record {
      columns_there = omega arith;
      words = all_map (is_row device_columns) has_names (device_cells all) (device_is_row all) (device_rows w c)
          (named_rows w c names);
    })

pub image_table_again : ImageTableIsReadAgain
unfolding is_named
image_table_again w c names = tables_again image_columns (map image_cells (image_rows w c)) (record {
  columns_there = omega arith;
  words = all_map (is_row image_columns) (λ (r : ImageRow). is_row image_columns (image_cells r)) image_cells
      (λ r is. is) (image_rows w c)
      (all_map (λ (r : ImageRow). is_row image_columns (image_cells r)) is_named (image_row c) (image_is_row c)
      (filter (is_image_listed w c) (images_of c))
      (all_filter is_named (is_image_listed w c) (images_of c) names));
})

pub ruleset devices_again = (device_table_again, image_table_again)
