-- Which subchannels of a small configuration are wanted, as it is worked by hand.
use Rattle.std.specs.Prelude.{◌≡◌, ℕ, Bool, true, false, List, [], ◌∷◌, map, Option, None, Some, codes}
use Rattle.iocm_types.specs.declared.image.Image.{Image}
use Rattle.iocm_types.specs.declared.key.Key.{Key}
use Rattle.iocm_types.specs.declared.sub_id.SubId.{SubId}
use Rattle.iocm_types.specs.declared.view.View.{View}
use Rattle.iocm_model.specs.Machine.Configuration.{Configuration, configuration_of}
use Rattle.iocm_model.specs.Machine.Record.{Rec, image, device}
use Rattle.iocm_filter.specs.declared.meant.ImageWord.TheVariants.{Place, Named}
use Rattle.iocm_filter.specs.Wanted.{Wanted, found_among, is_within, nothing, wants_image, wants_device, wants_view}
use Rattle.iocm_filter.specs.Wanted.{wants}

-- ---- the configuration

abbrev pub image_record : ℕ → ℕ → List ℕ → Rec
image_record css mif name = image (record { css = css; mif = mif; name = name })

abbrev pub device_record : ℕ → ℕ → List ℕ → Rec
device_record set number units =
    device (record {
      set = set;
      number = number;
      units = units;
      unit_address = 3;
      candidates = None;
      carried = [];
    })

-- LPA and LPB in channel subsystem 0, LPC and another LPB in 1; device 1003 on unit 1000, 2003 on
-- units 1000 and 2000, and in set 1 another 1003, on unit 2000
abbrev pub some_records : List Rec
some_records =
    image_record 0 1 (codes "LPA") ∷ image_record 0 2 (codes "LPB")
    ∷ image_record 1 2 (codes "LPC") ∷ image_record 1 3 (codes "LPB")
    ∷ device_record 0 0x1003 (0x1000 ∷ []) ∷ device_record 0 0x2003 (0x1000 ∷ 0x2000 ∷ [])
    ∷ device_record 1 0x1003 (0x2000 ∷ []) ∷ []

abbrev pub some_configuration : Configuration
some_configuration = configuration_of some_records

-- ---- what is asked for

abbrev pub image_at : ℕ → ℕ → Image
image_at css mif = record { css = css; mif = mif }

-- LPB; these device numbers of set 0, and on these control units; so many paths online at most; a path of this channel
-- subsystem, or of each
abbrev pub by_lpb : Wanted
by_lpb = record nothing { images = Named (codes "LPB") ∷ [] }

abbrev pub by_devices : List ℕ → List ℕ → Wanted
by_devices numbers units =
    record nothing { devices = map (λ n. record { set = 0; first = n; last = n }) numbers; units = units }

abbrev pub by_online : ℕ → Wanted
by_online most = record nothing { online = most ∷ [] }

abbrev pub by_path : Option ℕ → ℕ → Wanted
by_path css path = record nothing { paths = record { css = css; path = path } ∷ [] }

-- LPB's device 1003; something of each kind
abbrev pub by_image_and_device : Wanted
by_image_and_device = record (by_devices (0x1003 ∷ []) []) { images = Named (codes "LPB") ∷ [] }

abbrev pub by_all_kinds : Wanted
by_all_kinds = record by_image_and_device {
  units = 0x1000 ∷ [];
  paths = record { css = Some 0; path = 0x51 } ∷ [];
  online = 1 ∷ [];
}

-- ---- what is wanted

-- whether images 0.1, 0.2, 1.2 and 1.3 are, among entries; devices 1003, 2003 and 1004 of set 0, and 1003 of set 1
abbrev pub images_by : List (Key × Rec) → Wanted → List Bool
images_by es w =
    map (wants_image w (found_among w es)) (image_at 0 1 ∷ image_at 0 2 ∷ image_at 1 2 ∷ image_at 1 3 ∷ [])

abbrev pub devices_by : List (Key × Rec) → Wanted → List Bool
devices_by es w = map (λ (d : ℕ × ℕ). wants_device w (found_among w es) d.0 d.1)
    ((0, 0x1003) ∷ (0, 0x2003) ∷ (0, 0x1004) ∷ (1, 0x1003) ∷ [])

-- a view of three installed paths, of which these are online; by such masks, whether it is wanted
abbrev pub with_online : ℕ → View
with_online pam = record { device = 0x1003; paths = 0x50 ∷ 0x51 ∷ 0x52 ∷ []; pim = 0xE0; pam = pam }

abbrev pub online_by : Wanted → List Bool
online_by w = map (λ pam. wants_view w 0 (with_online pam)) (0xA0 ∷ 0x80 ∷ 0x20 ∷ 0 ∷ [])

-- a row: a subchannel of an image in a set, with a view of a device; whether some are wanted
abbrev pub row_of : ℕ → ℕ → ℕ → ℕ → SubId × View
row_of css mif set number = (
  record { image = image_at css mif; set = set; number = 0 },
  record { device = number; paths = 0x50 ∷ 0x51 ∷ []; pim = 0xC0; pam = 0x80 },
)

abbrev pub rows_by : List (Key × Rec) → Wanted → List (SubId × View) → List Bool
rows_by es w rows = map (wants w (found_among w es)) rows

pub record RowsAsWorked (es : List (Key × Rec)) : Type 0 where
  -- each image of a name, and no other one; a name that none has; the image at a place; one of two words is enough
  pub named : images_by es by_lpb ≡ false ∷ true ∷ false ∷ true ∷ []
  pub no_name : images_by es (record nothing { images = Named (codes "LP") ∷ [] }) ≡ false ∷ false ∷ false ∷ false ∷ []
  pub placed : images_by es (record nothing { images = Place (image_at 0 2) ∷ [] }) ≡ false ∷ true ∷ false ∷ false ∷ []
  pub two_images : images_by es (record nothing { images = Place (image_at 0 1) ∷ Named (codes "LPC") ∷ [] })
      ≡ true ∷ false ∷ true ∷ false ∷ []
  -- a device on its control unit, on each of two, and on no other one; that of set 1 is another one
  pub on_unit : devices_by es (by_devices [] (0x1000 ∷ [])) ≡ true ∷ true ∷ false ∷ false ∷ []
  pub on_other_unit : devices_by es (by_devices [] (0x2000 ∷ [])) ≡ false ∷ true ∷ false ∷ true ∷ []
  pub on_one_of_two : devices_by es (by_devices [] (0x3000 ∷ 0x1000 ∷ [])) ≡ true ∷ true ∷ false ∷ false ∷ []
  -- by its number, which has to be of the set; by its number and its control unit
  pub number : devices_by es (by_devices (0x1003 ∷ []) []) ≡ true ∷ false ∷ false ∷ false ∷ []
  pub number_and_unit : devices_by es (by_devices (0x1003 ∷ []) (0x1000 ∷ [])) ≡ true ∷ false ∷ false ∷ false ∷ []
  pub number_alone : devices_by es (by_devices (0x1003 ∷ []) (0x2000 ∷ [])) ≡ false ∷ false ∷ false ∷ false ∷ []
  -- the ends of a range are in it, and its set counts
  pub range : map (λ (d : ℕ × ℕ). is_within d.0 d.1 (record { set = 1; first = 0x1000; last = 0x10FF }))
      ((1, 0x1000) ∷ (1, 0x10FF) ∷ (1, 0x1100) ∷ (0, 0x1000) ∷ []) ≡ true ∷ true ∷ false ∷ false ∷ []
  -- two of three paths are online, one is, whichever it is, or none is; of two numbers one is enough
  pub three : online_by (by_online 3) ≡ true ∷ true ∷ true ∷ true ∷ []
  pub two : online_by (by_online 2) ≡ true ∷ true ∷ true ∷ true ∷ []
  pub one : online_by (by_online 1) ≡ false ∷ true ∷ true ∷ true ∷ []
  pub none : online_by (by_online 0) ≡ false ∷ false ∷ false ∷ true ∷ []
  pub either : online_by (record nothing { online = 0 ∷ 1 ∷ [] }) ≡ false ∷ true ∷ true ∷ true ∷ []
  -- a path is one of the image's own channel subsystem, or of each
  pub paths : map (λ w. wants_view w 1 (with_online 0xE0))
      (by_path (Some 1) 0x51 ∷ by_path (Some 0) 0x51 ∷ by_path None 0x51 ∷ by_path None 0x53 ∷ [])
      ≡ true ∷ false ∷ true ∷ false ∷ []
  pub path_of_image : rows_by es (by_path (Some 0) 0x51) (row_of 0 2 0 0x1003 ∷ row_of 1 3 0 0x1003 ∷ [])
      ≡ true ∷ false ∷ []
  -- nothing is asked for: each row, also of what the configuration hasn't
  pub all : rows_by es nothing (row_of 0 1 0 0x1003 ∷ row_of 5 15 3 0xFFFF ∷ []) ≡ true ∷ true ∷ []
  -- of two kinds both have to be so; of two words of a kind one is enough
  pub both_kinds : rows_by es by_image_and_device (row_of 0 2 0 0x1003 ∷ row_of 0 2 0 0x2003 ∷ row_of 0 1 0 0x1003
      ∷ row_of 0 1 0 0x2003 ∷ row_of 0 2 1 0x1003 ∷ []) ≡ true ∷ false ∷ false ∷ false ∷ false ∷ []
  pub two_devices : rows_by es (by_devices (0x1003 ∷ 0x2003 ∷ []) [])
      (row_of 0 1 0 0x1003 ∷ row_of 0 1 0 0x2003 ∷ row_of 0 1 0 0x1004 ∷ []) ≡ true ∷ true ∷ false ∷ []
  -- of five kinds each has to be so
  pub all_kinds : rows_by es by_all_kinds (row_of 0 2 0 0x1003 ∷ row_of 0 1 0 0x1003 ∷ row_of 0 2 0 0x2003 ∷ [])
      ≡ true ∷ false ∷ false ∷ []
  pub each_kind : map (λ w. wants w (found_among w es) (row_of 0 2 0 0x1003))
      (record by_all_kinds { units = 0x2000 ∷ [] } ∷ record by_all_kinds { online = 0 ∷ [] }
      ∷ record by_all_kinds { paths = record { css = Some 0; path = 0x52 } ∷ [] } ∷ []) ≡ false ∷ false ∷ false ∷ []
