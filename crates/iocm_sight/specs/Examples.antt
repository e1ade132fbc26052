-- What is asked for, what is seen, and paths with their links, as they are worked by hand.
use Rattle.std.specs.Prelude.{◌≡◌, ◌==◌, ℕ, true, false, if◌then◌else◌, List, [], ◌∷◌, Option, None, Some, codes}
use Rattle.iocm_types.specs.declared.css_path.CssPath.{CssPath}
use Rattle.iocm_types.specs.declared.key.Key.TheVariants as key
use Rattle.iocm_types.specs.declared.link.Link.{Link}
use Rattle.iocm_types.specs.declared.link.Link.TheVariants as link
use Rattle.iocm_types.specs.declared.view.View.{View}
use Rattle.iocm_model.specs.Machine.Configuration.{Lookup}
use Rattle.iocm_model.specs.Machine.Record.{ImageRecord, DeviceRecord, UnitRecord, unit}
use Rattle.iocm_filter.specs.declared.meant.ImageWord.TheVariants.{Place, Named}
use Rattle.iocm_filter.specs.Wanted.{Wanted, nothing}
use Rattle.iocm_words.specs.declared.paths.LinkedPath.{LinkedPath}
use Rattle.iocm_sight.specs.Connected.{means_image, wants_units}
use Rattle.iocm_sight.specs.Counts.{has_online}
use Rattle.iocm_sight.specs.Linked.{with_their_links}
use Rattle.iocm_sight.specs.Seen.{paths_by, seen_by, seen_if_wanted}
use Rattle.iocm_sight.specs.WantedRows.{wants_number}

-- ---- what is asked for

abbrev pub some_image : ImageRecord
some_image = record { css = 1; mif = 2; name = codes "A12" }

abbrev pub some_device : ℕ → ℕ → DeviceRecord
some_device set number = record {
  set = set;
  number = number;
  units = 0x2000 ∷ [];
  unit_address = 0;
  candidates = None;
  carried = [];
}

abbrev pub by_units : List ℕ → Wanted
by_units units = record nothing { units = units }

abbrev pub by_devices : Wanted
by_devices = record nothing { devices = record { set = 1; first = 0x2000; last = 0x200F } ∷ [] }

pub record AskedIsAsWorked : Type 0 where
  -- an image is meant by its place, and by its name
  pub by_place : means_image some_image (Place (record { css = 1; mif = 2 })) ≡ true
  pub other_place : means_image some_image (Place (record { css = 1; mif = 1 })) ≡ false
  pub by_name : means_image some_image (Named (codes "A12")) ≡ true
  pub other_name : means_image some_image (Named (codes "A11")) ≡ false
  -- a control unit among those that are asked for, or none is
  pub one_unit : wants_units (by_units (0x7000 ∷ 0x2000 ∷ [])) (0x2000 ∷ []) ≡ true
  pub other_unit : wants_units (by_units (0x7000 ∷ [])) (0x2000 ∷ []) ≡ false
  pub any_unit : wants_units nothing (0x2000 ∷ []) ≡ true
  -- a device in a range of its set
  pub in_range : wants_number by_devices (some_device 1 0x200F) ≡ true
  pub other_set : wants_number by_devices (some_device 0 0x200F) ≡ false

-- ---- what is seen

-- paths 40, 41 and 50 are installed, the first of them online
abbrev pub some_view : View
some_view = record { device = 0x2000; paths = 0x40 ∷ 0x41 ∷ 0x50 ∷ []; pim = 0xE0; pam = 0x80 }

abbrev pub on_path : ℕ → ℕ → CssPath
on_path css number = record { css = css; path = number }

-- control unit 2000 is on 0.41, 1.50 and 0.40
abbrev pub two_thousand : UnitRecord
two_thousand = record {
  number = 0x2000;
  paths = on_path 0 0x41 ∷ on_path 1 0x50 ∷ on_path 0 0x40 ∷ [];
  ranges = [];
  links = [];
  cuadd = None;
  carried = [];
}

abbrev pub one_unit : Lookup
one_unit (key.Unit number) = if number == 0x2000 then Some (unit two_thousand) else None
one_unit _ = None

pub record SeenIsAsWorked : Type 0 where
  pub online : has_online 1 (Some some_view) ≡ true
  pub installed : has_online 3 (Some some_view) ≡ false
  pub no_view : has_online 0 None ≡ false
  pub counts : seen_by some_image some_view
      ≡ record { image = record { css = 1; mif = 2 }; name = codes "A12"; installed = 3; online = 1 }
  -- with as few paths online as are asked for
  pub wanted : seen_if_wanted (record nothing { online = 1 ∷ [] }) some_image some_view
      ≡ Some (seen_by some_image some_view)
  pub unwanted : seen_if_wanted (record nothing { online = 0 ∷ [] }) some_image some_view ≡ None
  -- paths by channel subsystem, in the order of PATH; a control unit that isn't there has none
  pub paths : paths_by one_unit (0x2000 ∷ 0x7000 ∷ []) ≡ on_path 0 0x41 ∷ on_path 0 0x40 ∷ on_path 1 0x50 ∷ []

-- ---- paths with their links

abbrev pub linked : ℕ → ℕ → Option Link → LinkedPath
linked css number own = record { css = css; path = number; link = own }

pub record LinksAreAsWorked : Type 0 where
  pub both : with_their_links 1 (0x40 ∷ 0x41 ∷ []) (link.Long 0x6512 ∷ link.None ∷ [])
      ≡ linked 1 0x40 (Some (link.Long 0x6512)) ∷ linked 1 0x41 (Some link.None) ∷ []
  pub without : with_their_links 0 (0x50 ∷ []) [] ≡ linked 0 0x50 None ∷ []
