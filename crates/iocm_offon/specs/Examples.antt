-- The reasons of small changes of the example deck, as they are worked by hand. There LPA and LPB share the paths 50 and
-- 51 of control unit 1000, which has the devices 1000 to 1003.
use Rattle.std.specs.Prelude.{◌≡◌, ℕ, None, Some, List, [], ◌∷◌, fold, map, codes}
use Rattle.iocm_types.specs.declared.css_path.CssPath.{CssPath}
use Rattle.iocm_types.specs.declared.key.Key.{Key}
use Rattle.iocm_types.specs.declared.key.Key.TheVariants as key
use Rattle.iocm_types.specs.declared.link.Link.TheVariants as link
use Rattle.iocm_model.specs.Machine.Record.{Rec, device}
use Rattle.iocm_examples.specs.BaseDeck.{base, device_on_1000, lpa, unit_on}
use Rattle.iocm_plan.specs.Examples.{device_1002, lookup_among, path_50_on, pchid, renamed, unit_with_links}
use Rattle.iocm_plan.specs.Seen.{side}
use Rattle.iocm_plan.specs.declared.runs.DeviceRun.{DeviceRun}
use Rattle.iocm_impact.specs.declared.named_image.NamedImage.{NamedImage}
use Rattle.iocm_offon.specs.Reached.{paths_word, with_path}
use Rattle.iocm_offon.specs.Rerouted.{reasons_over_all}
use Rattle.iocm_offon.specs.declared.reason.Reach.{Reach}
use Rattle.iocm_offon.specs.declared.reason.Reach.TheVariants.{EachPath, ThisPath, OverAnother}
use Rattle.iocm_offon.specs.declared.reason.Reason.{Reason}

-- ---- why paths of LPA to device 1002 go off and on: a path, the object that leads it another way, and which it leads

pub record Because : Type 0 where
  pub path : ℕ
  pub object : Key
  pub reach : Reach

abbrev pub because : ℕ → Key → Reach → Because
because path object reach = record { path = path; object = object; reach = reach }

abbrev pub because_of : Reason → Because
because_of r = because r.spot.path.path r.object r.reach

abbrev pub image : NamedImage
image = record { image = record { css = 0; mif = 1 }; name = lpa }

abbrev pub run : DeviceRun
run = record { first = record { set = 0; number = 0x1002 }; count = 1 }

abbrev pub reasons_of : List Rec → List Rec → List Because
reasons_of old new = map because_of (reasons_over_all image run (side (lookup_among old) image.image 0 0x1002)
    (side (lookup_among new) image.image 0 0x1002))

-- control units 1000 and 2000 with a path each, and device 1002 on both
abbrev pub over_two : ℕ → ℕ → List Rec
over_two one other = device (record {
  set = 0;
  number = 0x1002;
  units = 0x1000 ∷ 0x2000 ∷ [];
  unit_address = 2;
  candidates = None;
  carried = [];
}) ∷ unit_on 0x1000 (one ∷ []) None ∷ unit_on 0x2000 (other ∷ []) None ∷ base

pub record ReasonsAreAsWorked : Type 0 where
  pub channel : reasons_of base (path_50_on (pchid ∷ []) ∷ base) ≡ because 0x50 (key.Path 0 0x50) ThisPath ∷ []
  pub cuadd : reasons_of base (unit_on 0x1000 (0x50 ∷ 0x51 ∷ []) (Some 1) ∷ base)
      ≡ because 0x50 (key.Unit 0x1000) EachPath ∷ because 0x51 (key.Unit 0x1000) EachPath ∷ []
  -- no CUADD is 00, and a link of two asterisks is none
  pub no_cuadd : reasons_of base (unit_on 0x1000 (0x50 ∷ 0x51 ∷ []) (Some 0) ∷ base) ≡ []
  pub link : reasons_of base (unit_with_links (link.None ∷ link.Short 0x05 ∷ []) ∷ base)
      ≡ because 0x51 (key.Unit 0x1000) ThisPath ∷ []
  pub name : reasons_of base renamed
      ≡ because 0x50 (key.Image 0 1) EachPath ∷ because 0x51 (key.Image 0 1) EachPath ∷ []
  pub address : reasons_of base (device_on_1000 0x1002 0x08 ∷ base)
      ≡ because 0x50 (key.Device 0 0x1002) EachPath ∷ because 0x51 (key.Device 0 0x1002) EachPath ∷ []
  -- a device on another control unit, and control units that exchange their paths under a device on both
  pub moved : reasons_of base (unit_on 0x2000 (0x50 ∷ []) None ∷ device_1002 0x2000 lpa ∷ base)
      ≡ because 0x50 (key.Device 0 0x1002) EachPath ∷ []
  pub exchanged : reasons_of (over_two 0x50 0x51) (over_two 0x51 0x50)
      ≡ because 0x50 (key.Unit 0x2000) OverAnother ∷ because 0x51 (key.Unit 0x1000) OverAnother ∷ []

-- ---- paths, in order and each once

abbrev pub at : ℕ → ℕ → CssPath
at css path = record { css = css; path = path }

abbrev pub in_order : List CssPath → List CssPath
in_order ps = fold with_path [] ps

pub record PathsAreToldAsWorked : Type 0 where
  pub one : paths_word (in_order (at 0 0x43 ∷ at 0 0x43 ∷ [])) ≡ codes "path 0.43"
  pub two : paths_word (in_order (at 0 0x44 ∷ at 0 0x43 ∷ [])) ≡ codes "paths 0.43 0.44"
  pub spanned : paths_word (in_order (at 1 0x43 ∷ at 0 0x44 ∷ at 0 0x43 ∷ [])) ≡ codes "paths 0,1.43 0.44"
