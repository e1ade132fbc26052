-- When two records are the same: of one kind, with the same fields, carried operands included.
use Rattle.std.specs.Prelude.{ℕ, nat_eq, ◌==◌, ◌&&◌, Bool, true, false, List}
use Rattle.std.specs.Cmp.Lexicographic.{pointwise}
use Rattle.std.specs.Option.{option_eq}
use Rattle.iocm_types.specs.declared.css_path.CssPath.{CssPath}
use Rattle.iocm_types.specs.declared.link.CssLink.{CssLink}
use Rattle.iocm_types.specs.declared.path_kind.PathKind.{PathKind}
use Rattle.iocm_types.specs.declared.path_kind.PathKind.TheVariants.{Dedicated, Shared, Reconfigurable}
use Rattle.iocm_types.specs.declared.unit_range.UnitRange.{UnitRange}
use Rattle.iocm_model.specs.Machine.Record.{CarriedOperand, Rec, id, resource, image, limit, path, unit, device, online}
use Rattle.iocm_model.specs.Machine.Record.{ImageRecord, LimitRecord, PathRecord, UnitRecord}
use Rattle.iocm_model.specs.Machine.Record.{DeviceRecord, OnlineRecord}
use Rattle.iocm_model.specs.Rules.EachRule.{same_link}

-- names letter by letter
abbrev pub same_name : List ℕ → List ℕ → Bool
same_name = pointwise nat_eq

abbrev pub same_names : List (List ℕ) → List (List ℕ) → Bool
same_names = pointwise same_name

-- carried operands: their keywords and their texts, in order
abbrev pub same_operand : CarriedOperand → CarriedOperand → Bool
same_operand a b = option_eq same_name a.keyword b.keyword && same_name a.text b.text

abbrev pub same_operands : List CarriedOperand → List CarriedOperand → Bool
same_operands = pointwise same_operand

-- how images use a path
abbrev pub same_kind : PathKind → PathKind → Bool
same_kind Dedicated Dedicated = true
same_kind Shared Shared = true
same_kind Reconfigurable Reconfigurable = true
same_kind _ _ = false

-- what a control unit lists
abbrev pub same_css_path : CssPath → CssPath → Bool
same_css_path a b = (a.css == b.css) && (a.path == b.path)

abbrev pub same_range : UnitRange → UnitRange → Bool
same_range a b = (a.start == b.start) && (a.count == b.count)

abbrev pub same_css_link : CssLink → CssLink → Bool
same_css_link a b = (a.css == b.css) && same_link a.link b.link

-- the records of each kind
abbrev pub same_image : ImageRecord → ImageRecord → Bool
same_image a b = (a.css == b.css) && (a.mif == b.mif) && same_name a.name b.name

abbrev pub same_limit : LimitRecord → LimitRecord → Bool
same_limit a b = (a.css == b.css) && (a.set == b.set) && (a.limit == b.limit)

abbrev pub same_path : PathRecord → PathRecord → Bool
same_path a b =
    (a.css == b.css) && (a.number == b.number) && same_kind a.kind b.kind
    && same_names a.access b.access && same_names a.candidates b.candidates
    && same_operands a.carried b.carried

abbrev pub same_unit : UnitRecord → UnitRecord → Bool
same_unit a b =
    (a.number == b.number) && pointwise same_css_path a.paths b.paths
    && pointwise same_range a.ranges b.ranges && pointwise same_css_link a.links b.links
    && option_eq nat_eq a.cuadd b.cuadd && same_operands a.carried b.carried

abbrev pub same_device : DeviceRecord → DeviceRecord → Bool
same_device a b =
    (a.set == b.set) && (a.number == b.number) && pointwise nat_eq a.units b.units
    && (a.unit_address == b.unit_address) && option_eq same_names a.candidates b.candidates
    && same_operands a.carried b.carried

abbrev pub same_online : OnlineRecord → OnlineRecord → Bool
same_online a b = (a.css == b.css) && (a.path == b.path) && same_name a.name b.name

-- two records are the same
abbrev pub same_record : Rec → Rec → Bool
same_record (id a) (id b) = same_operands a b
same_record (resource a) (resource b) = same_operands a b
same_record (image a) (image b) = same_image a b
same_record (limit a) (limit b) = same_limit a b
same_record (path a) (path b) = same_path a b
same_record (unit a) (unit b) = same_unit a b
same_record (device a) (device b) = same_device a b
same_record (online a) (online b) = same_online a b
same_record _ _ = false
