-- Tables of the devices and the images of a small configuration, as they are worked by hand.
use Rattle.std.specs.Prelude.{◌≡◌, ℕ, List, [], ◌∷◌, Option, None, Some, codes, map}
use Rattle.iocm_types.specs.declared.path_kind.PathKind.TheVariants.{Shared}
use Rattle.iocm_model.specs.Machine.Configuration.{Configuration, configuration_of}
use Rattle.iocm_model.specs.Machine.Record.{Rec, device, limit, unit}
use Rattle.iocm_filter.specs.declared.meant.ImageWord.TheVariants.{Named}
use Rattle.iocm_filter.specs.Wanted.{Wanted, nothing}
use Rattle.iocm_list.specs.DeviceCells.{device_table, image_table, seen_word}
use Rattle.iocm_list.specs.DeviceRows.{DeviceRow, device_rows}
use Rattle.iocm_list.specs.Examples.{by_devices, by_images, by_path, by_unit, image_record, on_path, online_record}
use Rattle.iocm_list.specs.Examples.{operand, path_record, text_of}
use Rattle.iocm_list.specs.ImageRows.{ImageRow, image_rows}
use Rattle.iocm_sight.specs.declared.seen_by.SeenBy.{SeenBy}

-- ---- the configuration

-- a device on control unit 2000
abbrev pub device_at : ℕ → ℕ → ℕ → Option (List (List ℕ)) → List ℕ → Rec
device_at set number address candidates device_type = device (record {
  set = set;
  number = number;
  units = 0x2000 ∷ [];
  unit_address = address;
  candidates = candidates;
  carried = operand (codes "UNIT") device_type ∷ [];
})

-- PROD and TEST in channel subsystem 0, SYS3 in 1; paths 0.40, which isn't online to TEST, 0.41 and 1.40; of four
-- devices in a row nobody is a candidate of the third; TEST alone is of one in subchannel set 1
abbrev pub seen_records : List Rec
seen_records =
    image_record 0 1 (codes "PROD") ∷ image_record 0 2 (codes "TEST") ∷ image_record 1 1 (codes "SYS3")
    ∷ limit (record { css = 0; set = 1; limit = 40 })
    ∷ path_record 0 0x40 Shared (codes "PROD" ∷ []) (codes "PROD" ∷ codes "TEST" ∷ []) []
    ∷ path_record 0 0x41 Shared (codes "PROD" ∷ codes "TEST" ∷ []) [] []
    ∷ path_record 1 0x40 Shared (codes "SYS3" ∷ []) [] []
    ∷ unit (record {
      number = 0x2000;
      paths = on_path 0 0x40 ∷ on_path 0 0x41 ∷ on_path 1 0x40 ∷ [];
      ranges = record { start = 0; count = 64 } ∷ [];
      links = [];
      cuadd = None;
      carried = [];
    })
    ∷ device_at 0 0x2000 0 None (codes "3390B") ∷ device_at 0 0x2001 1 None (codes "3390B")
    ∷ device_at 0 0x2002 2 (Some []) (codes "3390B") ∷ device_at 0 0x2003 3 None (codes "3390B")
    ∷ device_at 1 0x2010 0x10 (Some (codes "TEST" ∷ [])) (codes "3390A")
    ∷ online_record 0 0x40 (codes "PROD") ∷ online_record 0 0x41 (codes "PROD") ∷ online_record 0 0x41 (codes "TEST")
    ∷ online_record 1 0x40 (codes "SYS3") ∷ []

abbrev pub seen_configuration : Configuration
seen_configuration = configuration_of seen_records

-- ---- what is left

abbrev pub devices_left : Wanted → Configuration → List (ℕ × ℕ × ℕ)
devices_left w c = map (λ (r : DeviceRow). (r.set, r.first, r.count)) (device_rows w c)

abbrev pub images_left : Wanted → Configuration → List (List ℕ)
images_left w c = map (λ (r : ImageRow). r.name) (image_rows w c)

abbrev pub by_online : ℕ → Wanted
by_online most = record nothing { online = most ∷ [] }

pub record DevicesAreLeft (c : Configuration) : Type 0 where
  -- a part of a run is a run
  pub ranges : devices_left (by_devices 0 0x2001 0x2002) c ≡ (0, 0x2001, 1) ∷ (0, 0x2002, 1) ∷ []
  -- what an image sees, and with no path online
  pub image : devices_left (by_images (codes "SYS3" ∷ [])) c ≡ (0, 0x2000, 2) ∷ (0, 0x2003, 1) ∷ []
  pub image_online : devices_left (record (by_online 0) { images = Named (codes "SYS3") ∷ [] }) c ≡ []
  pub one_path : devices_left (by_online 1) c ≡ (0, 0x2000, 2) ∷ (0, 0x2003, 1) ∷ (1, 0x2010, 1) ∷ []
  -- a path, and a control unit, that there isn't
  pub no_path : devices_left (by_path (Some 0) 0x42) c ≡ []
  pub no_unit : devices_left (by_unit 0x3000) c ≡ []
  -- images that reach a path, or one of a control unit, or see a device
  pub path_images : images_left (by_path (Some 0) 0x41) c ≡ codes "PROD" ∷ codes "TEST" ∷ []
  pub unit_images : images_left (by_unit 0x2000) c ≡ codes "PROD" ∷ codes "TEST" ∷ codes "SYS3" ∷ []
  pub no_unit_images : images_left (by_unit 0x3000) c ≡ []
  pub device_images : images_left (by_devices 1 0x2010 0x2010) c ≡ codes "TEST" ∷ []
  pub both_images : images_left (record (by_path None 0x40) { images = Named (codes "SYS3") ∷ [] }) c
      ≡ codes "SYS3" ∷ []

-- ---- the tables

pub record DevicesAreListed (c : Configuration) : Type 0 where
  pub devices : device_table nothing c ≡ text_of
      (codes "DEVICE     COUNT  UNIT   CU    UNITADD  PATHS         IMAGES"
      ∷ codes "2000-2001      2  3390B  2000  00-01    0:40,41;1:40  2/2:PROD;1/2:TEST;1/1:SYS3"
      ∷ codes "2002           1  3390B  2000  02       0:40,41;1:40  -"
      ∷ codes "2003           1  3390B  2000  03       0:40,41;1:40  2/2:PROD;1/2:TEST;1/1:SYS3"
      ∷ codes "1.2010         1  3390A  2000  10       0:40,41;1:40  1/2:TEST" ∷ [])
  pub test_devices : device_table (by_images (codes "TEST" ∷ [])) c ≡ text_of
      (codes "DEVICE     COUNT  UNIT   CU    UNITADD  PATHS         IMAGES"
      ∷ codes "2000-2001      2  3390B  2000  00-01    0:40,41;1:40  1/2:TEST"
      ∷ codes "2003           1  3390B  2000  03       0:40,41;1:40  1/2:TEST"
      ∷ codes "1.2010         1  3390A  2000  10       0:40,41;1:40  1/2:TEST" ∷ [])
  pub images : image_table nothing c ≡ text_of
      (codes "IMAGE  NAME  PATHS  ONLINE  DEVICES  NO-PATH  ONE-PATH  NUMBERS"
      ∷ codes "0.1    PROD      2       2        3        0         0  0:4/65280,1:1/40"
      ∷ codes "0.2    TEST      2       1        4        0         4  0:4/65280,1:1/40"
      ∷ codes "1.1    SYS3      1       1        3        0         3  0:4/65280,1:1/65535" ∷ [])

-- ---- all images

abbrev pub seen_as : ℕ → List ℕ → ℕ → SeenBy
seen_as mif name online =
    record { image = record { css = 0; mif = mif }; name = name; installed = 2; online = online }

abbrev pub both_see : ℕ → List SeenBy
both_see online = seen_as 1 (codes "A") 2 ∷ seen_as 2 (codes "B") online ∷ []

pub record AllAreTold : Type 0 where
  -- of two images both alike, of three two, both but not alike, and of one it alone
  pub both : seen_word 2 (both_see 2) ≡ codes "2/2:all"
  pub two_of_three : seen_word 3 (both_see 2) ≡ codes "2/2:A,B"
  pub not_alike : seen_word 2 (both_see 0) ≡ codes "2/2:A;0/2:B"
  pub alone : seen_word 1 (seen_as 1 (codes "A") 2 ∷ []) ≡ codes "2/2:A"
