-- How a path leads from an image to a device, and when it leads there by one route before and after a change. A path
-- with another route may go off and on again, though no mask shows it.
-- IOCP User's Guide, CHPID, CNTLUNIT and IODEVICE statements.
use Rattle.std.specs.Prelude.{ℕ, Bool, false, ◌==◌, ◌&&◌, if◌then◌else◌, List, [], ◌∷◌, Option, None, Some}
use Rattle.std.specs.Option.{option_and_then, option_eq, option_or}
use Rattle.iocm_types.specs.declared.key.Key.TheVariants as key
use Rattle.iocm_model.specs.Machine.Configuration.{Lookup}
use Rattle.iocm_model.specs.Machine.Record.{PathRecord, UnitRecord, DeviceRecord}
use Rattle.iocm_model.specs.Rules.EachRule.{cuadd_or_zero}
use Rattle.iocm_difference.specs.Same.{same_kind, same_name, same_operands}
use Rattle.iocm_unit_rules.specs.Links.{share_link_on}
use Rattle.iocm_sight.specs.Connected.{as_path, as_unit, has_path}
use Rattle.iocm_plan.specs.Seen.{Side}

-- what a test gives of the first item of which it gives something
abbrev pub first_of : {A B : Type 0} → (A → Option B) → List A → Option B
first_of give [] = None
first_of give (x ∷ xs) = option_or (give x) (first_of give xs)

-- the path of a number in the image's channel subsystem, if it is there
abbrev pub path_at : Side → ℕ → Option PathRecord
path_at s p = option_and_then as_path (s.records (key.Path s.image.css p))

-- the control unit of a number, if it is there
abbrev pub unit_record : Lookup → ℕ → Option UnitRecord
unit_record c number = option_and_then as_unit (c (key.Unit number))

-- of the device's control units that which has a path
abbrev pub if_it_has : ℕ → ℕ → UnitRecord → Option UnitRecord
if_it_has css p u = if has_path css p u then Some u else None

abbrev pub unit_over : Side → ℕ → ℕ → Option UnitRecord
unit_over s p number = option_and_then (if_it_has s.image.css p) (unit_record s.records number)

abbrev pub unit_with : Side → ℕ → Option UnitRecord
unit_with s p = first_of (unit_over s p) s.device.units

-- ---- one route

-- a path is used in one way, and carries the same operands
abbrev pub is_one_path : PathRecord → PathRecord → Bool
is_one_path p q = same_kind p.kind q.kind && same_operands p.carried q.carried

-- a control unit has one number, one CUADD, which is 00 where there is none, the same operands, and one link at a path
abbrev pub is_one_unit : ℕ → ℕ → UnitRecord → UnitRecord → Bool
is_one_unit css p u v = (u.number == v.number) && (cuadd_or_zero u == cuadd_or_zero v)
    && same_operands u.carried v.carried && share_link_on css p u v

-- a device has one unit address, and the same operands
abbrev pub is_one_device : DeviceRecord → DeviceRecord → Bool
is_one_device d e = (d.unit_address == e.unit_address) && same_operands d.carried e.carried

-- by one route a path leads from the image of one name over one path and one control unit to one device
abbrev pub is_one_route : Side → Side → ℕ → Bool
is_one_route s t p = same_name s.image.name t.image.name && is_one_device s.device t.device
    && option_eq is_one_path (path_at s p) (path_at t p)
    && option_eq (is_one_unit s.image.css p) (unit_with s p) (unit_with t p)

abbrev pub has_one_route : Option Side → Option Side → ℕ → Bool
has_one_route (Some s) (Some t) p = is_one_route s t p
has_one_route _ _ p = false
