-- Why a path may go off and on again: the objects that lead it another way after a change, and whether each leads every
-- path of a device another way, or this one.
use Rattle.std.specs.Prelude.{ℕ, Bool, not, nat_eq, ◌==◌, ◌&&◌, ◌||◌, if◌then◌else◌, Option, None, Some, List, [], ◌∷◌}
use Rattle.std.specs.Prelude.{◌++◌}
use Rattle.std.specs.Cmp.Lexicographic.{pointwise}
use Rattle.std.specs.Option.{option_eq}
use Rattle.iocm_types.specs.declared.key.Key.{Key}
use Rattle.iocm_types.specs.declared.key.Key.TheVariants as key
use Rattle.iocm_difference.specs.Same.{same_name, same_operands}
use Rattle.iocm_model.specs.Machine.Record.{UnitRecord}
use Rattle.iocm_model.specs.Rules.EachRule.{cuadd_or_zero}
use Rattle.iocm_unit_rules.specs.Links.{share_link_on}
use Rattle.iocm_plan.specs.Routes.{is_one_device, is_one_path, path_at, unit_with}
use Rattle.iocm_plan.specs.Seen.{Side}
use Rattle.iocm_offon.specs.declared.reason.Reach.{Reach}
use Rattle.iocm_offon.specs.declared.reason.Reach.TheVariants.{EachPath, ThisPath, OverAnother}
use Rattle.iocm_offon.specs.declared.reason.Reason.{Reason}
use Rattle.iocm_offon.specs.declared.reason.Spot.{Spot}

-- an object is a reason at a path of an image's devices
abbrev pub reason : Spot → Key → Reach → Reason
reason s object reach = record { object = object; reach = reach; spot = s }

abbrev pub reason_if : Bool → Spot → Key → Reach → List Reason
reason_if is_so s object reach = if is_so then reason s object reach ∷ [] else []

-- ---- the image has another name

abbrev pub image_key : Spot → Key
image_key s = key.Image s.image.image.css s.image.image.mif

abbrev pub image_reasons : Spot → Side → Side → List Reason
image_reasons s b a = reason_if (not (same_name b.image.name a.image.name)) s (image_key s) EachPath

-- ---- the path is used in another way, or has other operands

abbrev pub path_key : Spot → Key
path_key s = key.Path s.path.css s.path.path

abbrev pub path_reasons : Spot → Side → Side → List Reason
path_reasons s b a =
    reason_if (not (option_eq is_one_path (path_at b s.path.path) (path_at a s.path.path))) s (path_key s) ThisPath

-- ---- the control unit

-- it is reached in one way, whatever the path: by one CUADD, and with the same operands
abbrev pub is_one_way : UnitRecord → UnitRecord → Bool
is_one_way u v = (cuadd_or_zero u == cuadd_or_zero v) && same_operands u.carried v.carried

-- the path leads over one control unit before and after: each path is led another way where that is reached in another
-- way, else this path where its link is another
abbrev pub kept_reasons : Spot → UnitRecord → UnitRecord → List Reason
kept_reasons s u v =
    if is_one_way u v then reason_if (not (share_link_on s.path.css s.path.path u v)) s (key.Unit v.number) ThisPath
    else reason s (key.Unit v.number) EachPath ∷ []

-- it leads over another one: that is a reason, if the device's control units are the same
abbrev pub other_reasons : Bool → Spot → UnitRecord → List Reason
other_reasons is_moved s u = reason_if (not is_moved) s (key.Unit u.number) OverAnother

abbrev pub unit_reasons : Bool → Spot → Option UnitRecord → Option UnitRecord → List Reason
unit_reasons is_moved s (Some u) (Some v) =
    if u.number == v.number then kept_reasons s u v else other_reasons is_moved s v
unit_reasons is_moved s None (Some v) = other_reasons is_moved s v
unit_reasons is_moved s (Some u) None = other_reasons is_moved s u
unit_reasons is_moved s None None = []

-- ---- the device: it is on other control units, or has another unit address or other operands

abbrev pub is_over_another : Option UnitRecord → Option UnitRecord → Bool
is_over_another u v = not (option_eq (λ (u : UnitRecord) (v : UnitRecord). u.number == v.number) u v)

abbrev pub has_moved : Side → Side → Bool
has_moved b a = not (pointwise nat_eq b.device.units a.device.units)

abbrev pub leads_elsewhere : Spot → Side → Side → Bool
leads_elsewhere s b a =
    (has_moved b a && is_over_another (unit_with b s.path.path) (unit_with a s.path.path))
    || not (is_one_device b.device a.device)

abbrev pub device_key : Spot → Key
device_key s = key.Device s.run.first.set s.run.first.number

abbrev pub device_reasons : Spot → Side → Side → List Reason
device_reasons s b a = reason_if (leads_elsewhere s b a) s (device_key s) EachPath

-- ---- all of them

abbrev pub reasons_at : Spot → Side → Side → List Reason
reasons_at s b a =
    (image_reasons s b a ++ path_reasons s b a)
    ++ (unit_reasons (has_moved b a) s (unit_with b s.path.path) (unit_with a s.path.path) ++ device_reasons s b a)
