-- Rows and tables of a small configuration, as they are worked by hand.
use Rattle.std.specs.Prelude.{◌≡◌, ℕ, List, [], ◌∷◌, ◌++◌, map, Option, None, Some, codes}
use Rattle.std.specs.List.{flat_map}
use Rattle.iocm_types.specs.declared.css_path.CssPath.{CssPath}
use Rattle.iocm_types.specs.declared.link.CssLink.{CssLink}
use Rattle.iocm_types.specs.declared.link.Link.{Link}
use Rattle.iocm_types.specs.declared.link.Link.TheVariants as link
use Rattle.iocm_types.specs.declared.path_kind.PathKind.{PathKind}
use Rattle.iocm_types.specs.declared.path_kind.PathKind.TheVariants.{Shared, Reconfigurable}
use Rattle.iocm_model.specs.Machine.Configuration.{Configuration, configuration_of}
use Rattle.iocm_model.specs.Machine.Record.{Rec, CarriedOperand, image, path, unit, device, online}
use Rattle.iocm_filter.specs.declared.meant.ImageWord.TheVariants.{Place, Named}
use Rattle.iocm_filter.specs.Wanted.{Wanted, nothing}
use Rattle.iocm_words.specs.declared.paths.LinkedPath.{LinkedPath}
use Rattle.iocm_words.specs.declared.ranges.DeviceNumbers.{DeviceNumbers}
use Rattle.iocm_list.specs.declared.path_row.PathRow.{PathRow}
use Rattle.iocm_list.specs.declared.path_row.PathTexts.{PathTexts}
use Rattle.iocm_list.specs.declared.unit_row.UnitRow.{UnitRow}
use Rattle.iocm_list.specs.Cells.{path_table, unit_table}
use Rattle.iocm_list.specs.PathRows.{path_rows}
use Rattle.iocm_list.specs.UnitRows.{unit_rows}

-- ---- the configuration

abbrev pub image_record : ℕ → ℕ → List ℕ → Rec
image_record css mif name = image (record { css = css; mif = mif; name = name })

abbrev pub operand : List ℕ → List ℕ → CarriedOperand
operand keyword text = record { keyword = Some keyword; text = text }

abbrev pub path_record : ℕ → ℕ → PathKind → List (List ℕ) → List (List ℕ) → List CarriedOperand → Rec
path_record css number kind access candidates carried = path (record {
  css = css;
  number = number;
  kind = kind;
  access = access;
  candidates = candidates;
  carried = carried;
})

abbrev pub device_record : ℕ → ℕ → List ℕ → Rec
device_record set number units = device (record {
  set = set;
  number = number;
  units = units;
  unit_address = 0;
  candidates = None;
  carried = [];
})

abbrev pub online_record : ℕ → ℕ → List ℕ → Rec
online_record css number name = online (record { css = css; path = number; name = name })

abbrev pub on_path : ℕ → ℕ → CssPath
on_path css number = record { css = css; path = number }

abbrev pub linked : ℕ → ℕ → CssLink
linked css number = record { css = css; link = link.Long number }

-- A01 and A03 in channel subsystem 0, A11 in 1; paths 0.40, 0.F4 and 1.40; control unit 2000 on 0.40 and 1.40, 7000
-- on 0.F4 alone; three devices in a row and one apart on 2000, one in subchannel set 1 on both control units
abbrev pub some_records : List Rec
some_records =
    image_record 0 1 (codes "A01") ∷ image_record 0 3 (codes "A03") ∷ image_record 1 1 (codes "A11")
    ∷ path_record 0 0x40 Shared (codes "A01" ∷ []) (codes "A01" ∷ codes "A03" ∷ [])
    (operand (codes "TYPE") (codes "FC") ∷ operand (codes "SWITCH") (codes "6 5") ∷ [])
    ∷ path_record 0 0xF4 Reconfigurable (codes "A01" ∷ []) (codes "A03" ∷ [])
    (operand (codes "PORT") (codes "1") ∷ operand (codes "AID") (codes "08") ∷ [])
    ∷ path_record 1 0x40 Shared (codes "A11" ∷ []) [] (operand (codes "PCHID") (codes "120") ∷ [])
    ∷ unit (record {
      number = 0x2000;
      paths = on_path 0 0x40 ∷ on_path 1 0x40 ∷ [];
      ranges = record { start = 0; count = 256 } ∷ [];
      links = linked 0 0x6512 ∷ linked 1 0x6512 ∷ [];
      cuadd = Some 0;
      carried = operand (codes "UNIT") (codes "2107") ∷ [];
    })
    ∷ unit (record {
      number = 0x7000;
      paths = on_path 0 0xF4 ∷ [];
      ranges = record { start = 0; count = 16 } ∷ record { start = 0x1E; count = 1 } ∷ [];
      links = [];
      cuadd = None;
      carried = [];
    })
    ∷ device_record 0 0x2000 (0x2000 ∷ []) ∷ device_record 0 0x2001 (0x2000 ∷ [])
    ∷ device_record 0 0x2002 (0x2000 ∷ []) ∷ device_record 0 0x2010 (0x2000 ∷ [])
    ∷ device_record 1 0x2011 (0x2000 ∷ 0x7000 ∷ [])
    ∷ online_record 0 0x40 (codes "A01") ∷ online_record 1 0x40 (codes "A11") ∷ []

abbrev pub some_configuration : Configuration
some_configuration = configuration_of some_records

-- ---- what is left

-- the numbers of the rows that are left
abbrev pub paths_left : Wanted → Configuration → List (ℕ × ℕ)
paths_left w c = map (λ (r : PathRow). (r.css, r.number)) (path_rows w c)

abbrev pub units_left : Wanted → Configuration → List ℕ
units_left w c = map (λ (r : UnitRow). r.number) (unit_rows w c)

abbrev pub by_images : List (List ℕ) → Wanted
by_images names = record nothing { images = map Named names }

abbrev pub by_place : ℕ → ℕ → Wanted
by_place css mif = record nothing { images = Place (record { css = css; mif = mif }) ∷ [] }

abbrev pub by_unit : ℕ → Wanted
by_unit number = record nothing { units = number ∷ [] }

abbrev pub by_path : Option ℕ → ℕ → Wanted
by_path css number = record nothing { paths = record { css = css; path = number } ∷ [] }

abbrev pub by_devices : ℕ → ℕ → ℕ → Wanted
by_devices set first last = record nothing { devices = record { set = set; first = first; last = last } ∷ [] }

pub record RowsAreLeft (c : Configuration) : Type 0 where
  -- an image leads to the paths that it reaches, and to the control units that have one of them
  pub image_paths : paths_left (by_images (codes "A03" ∷ [])) c ≡ (0, 0x40) ∷ (0, 0xF4) ∷ []
  pub image_units : units_left (by_images (codes "A11" ∷ [])) c ≡ 0x2000 ∷ []
  pub place_paths : paths_left (by_place 0 3) c ≡ (0, 0x40) ∷ (0, 0xF4) ∷ []
  pub place_units : units_left (by_place 1 1) c ≡ 0x2000 ∷ []
  pub no_image : paths_left (by_place 1 3) c ≡ []
  -- a path of every channel subsystem, and of one
  pub own_paths : paths_left (by_path None 0x40) c ≡ (0, 0x40) ∷ (1, 0x40) ∷ []
  pub path_units : units_left (by_path (Some 1) 0x40) c ≡ 0x2000 ∷ []
  -- a control unit leads to its paths
  pub unit_paths : paths_left (by_unit 0x2000) c ≡ (0, 0x40) ∷ (1, 0x40) ∷ []
  pub own_units : units_left (by_unit 0x7000) c ≡ 0x7000 ∷ []
  -- a device leads to its control units, and to their paths
  pub device_units : units_left (by_devices 1 0x2011 0x20FF) c ≡ 0x2000 ∷ 0x7000 ∷ []
  pub device_paths : paths_left (by_devices 0 0x2002 0x200F) c ≡ (0, 0x40) ∷ (1, 0x40) ∷ []
  -- of two kinds both have to be so
  pub both : paths_left (record (by_unit 0x2000) { images = Named (codes "A11") ∷ [] }) c ≡ (1, 0x40) ∷ []
  pub neither : paths_left (record (by_unit 0x7000) { images = Named (codes "A11") ∷ [] }) c ≡ []

-- ---- the rows, and the tables of them

abbrev pub path_listed : ℕ → ℕ → PathKind → PathTexts → ℕ → List (List ℕ) → List (List ℕ) → ℕ → PathRow
path_listed css number kind texts devices online_to offline_to on = record {
  css = css;
  number = number;
  kind = kind;
  texts = texts;
  devices = devices;
  online = online_to;
  offline = offline_to;
  units = on ∷ [];
}

abbrev pub no_texts : PathTexts
no_texts =
    record { channel_type = None; pchid = None; vchid = None; aid = None; port = None; switch = None }

abbrev pub paths_listed : List PathRow
paths_listed =
    path_listed 0 0x40 Shared (record no_texts { channel_type = Some (codes "FC"); switch = Some (codes "6 5") }) 5
    (codes "A01" ∷ []) (codes "A03" ∷ []) 0x2000
    ∷ path_listed 0 0xF4 Reconfigurable (record no_texts { aid = Some (codes "08"); port = Some (codes "1") }) 1
    [] (codes "A01" ∷ codes "A03" ∷ []) 0x7000
    ∷ path_listed 1 0x40 Shared (record no_texts { pchid = Some (codes "120") }) 5 (codes "A11" ∷ []) [] 0x2000 ∷ []

abbrev pub with_link : ℕ → ℕ → Option Link → LinkedPath
with_link css number own = record { css = css; path = number; link = own }

abbrev pub devices_listed : ℕ → ℕ → ℕ → DeviceNumbers
devices_listed set first last = record { set = set; first = first; last = last }

abbrev pub units_listed : List UnitRow
units_listed =
    record {
      number = 0x2000;
      unit_type = Some (codes "2107");
      cuadd = Some 0;
      addresses = record { start = 0; count = 256 } ∷ [];
      paths = with_link 0 0x40 (Some (link.Long 0x6512)) ∷ with_link 1 0x40 (Some (link.Long 0x6512)) ∷ [];
      devices = 5;
      ranges = devices_listed 0 0x2000 0x2002 ∷ devices_listed 0 0x2010 0x2010 ∷ devices_listed 1 0x2011 0x2011 ∷ [];
    }
    ∷ record {
      number = 0x7000;
      unit_type = None;
      cuadd = None;
      addresses = record { start = 0; count = 16 } ∷ record { start = 0x1E; count = 1 } ∷ [];
      paths = with_link 0 0xF4 None ∷ [];
      devices = 1;
      ranges = devices_listed 1 0x2011 0x2011 ∷ [];
    } ∷ []

-- lines, each with its end
abbrev pub text_of : List (List ℕ) → List ℕ
text_of lines = flat_map (λ line. line ++ 10 ∷ []) lines

pub record RowsAreListed (c : Configuration) : Type 0 where
  pub paths : path_rows nothing c ≡ paths_listed
  pub units : unit_rows nothing c ≡ units_listed
  pub path_lines : path_table nothing c ≡ text_of
      (codes "CHPID  TYPE  PCHID     SWITCH  USE     DEVICES  ONLINE  OFFLINE  CU"
      ∷ codes "0.40   FC    -         6_5     SHARED        5  A01     A03      2000"
      ∷ codes "0.F4   -     AID=08/1  -       REC           1  -       A01,A03  7000"
      ∷ codes "1.40   -     120       -       SHARED        5  A11     -        2000" ∷ [])
  pub unit_lines : unit_table nothing c ≡ text_of
      (codes "CU    UNIT  CUADD  UNITADD   PATHS        DEVICES  RANGES"
      ∷ codes "2000  2107  00     00-FF     0,1:40/6512        5  2000-2002,2010,1.2011"
      ∷ codes "7000  -     -      00-0F,1E  0:F4               1  1.2011" ∷ [])
