-- Records are the same by the test exactly where they are equal.
use Rattle.std.proofs.Common.{◌≡◌, ℕ, nat_eq, eqb-true, eq-eqb, Bool, true, false, not, List, [], ◌∷◌, Option, Some}
use Rattle.std.proofs.Common.{None, refl, sym, ap, ◌∙◌}
use Rattle.std.specs.Option.{option_eq}
use Rattle.std.specs.Cmp.Lexicographic.{pointwise}
use Rattle.std.specs.Cmp.Derive.{both_true}
use Rattle.std.proofs.lemmas.Bool.{and_parts}
use Rattle.iocm_types.specs.declared.css_path.CssPath.{CssPath}
use Rattle.iocm_types.specs.declared.link.CssLink.{CssLink}
use Rattle.iocm_types.specs.declared.link.Link.{Link}
use Rattle.iocm_types.specs.declared.link.Link.TheVariants as link
use Rattle.iocm_types.specs.declared.path_kind.PathKind.{PathKind}
use Rattle.iocm_types.specs.declared.path_kind.PathKind.TheVariants.{Dedicated, Shared, Reconfigurable}
use Rattle.iocm_types.specs.declared.unit_range.UnitRange.{UnitRange}
use Rattle.iocm_model.specs.Machine.Record.{CarriedOperand, Rec, id, resource, image, limit, path, unit, device, online}
use Rattle.iocm_model.specs.Machine.Record.{ImageRecord, LimitRecord, PathRecord, UnitRecord, DeviceRecord}
use Rattle.iocm_model.specs.Machine.Record.{OnlineRecord}
use Rattle.iocm_model.specs.Rules.EachRule.{same_link}
use Rattle.iocm_difference.specs.Same.{same_name, same_names, same_operand, same_operands, same_kind, same_css_path}
use Rattle.iocm_difference.specs.Same.{same_range, same_css_link}
use Rattle.iocm_difference.specs.Same.{same_image, same_limit, same_path, same_unit, same_device, same_online}
use Rattle.iocm_difference.specs.Same.{same_record}

-- ---- lists and options

module _ {A : Type 0} (same : A → A → Bool) (is : (x y : A) → same x y ≡ true → x ≡ y) where
  list_is : (xs ys : List A) → pointwise same xs ys ≡ true → xs ≡ ys
  list_is [] [] h = refl
  list_is [] (y ∷ ys) h = cc
  list_is (x ∷ xs) [] h = cc
  list_is (x ∷ xs) (y ∷ ys) h = let p = and_parts _ _ h in λ i. is x y p.0 i ∷ list_is xs ys p.1 i

  pub option_is : (a b : Option A) → option_eq same a b ≡ true → a ≡ b
  option_is None None h = refl
  option_is None (Some y) h = cc
  option_is (Some x) None h = cc
  option_is (Some x) (Some y) h = ap Some (is x y h)

module _ {A : Type 0} (same : A → A → Bool) (own : (x : A) → same x x ≡ true) where
  own_list : (xs : List A) → pointwise same xs xs ≡ true
  own_list [] = refl
  own_list (x ∷ xs) = both_true (own x) (own_list xs)

  pub own_option : (a : Option A) → option_eq same a a ≡ true
  own_option None = refl
  own_option (Some x) = own x

pub number_is : (x y : ℕ) → nat_eq x y ≡ true → x ≡ y
number_is x y h = eqb-true x y h

pub own_number : (x : ℕ) → nat_eq x x ≡ true
own_number x = eq-eqb x x refl

-- ---- what records are made of

pub name_is : (x y : List ℕ) → same_name x y ≡ true → x ≡ y
name_is = list_is nat_eq number_is

pub own_name : (x : List ℕ) → same_name x x ≡ true
own_name = own_list nat_eq own_number

pub names_are : (xs ys : List (List ℕ)) → same_names xs ys ≡ true → xs ≡ ys
names_are = list_is same_name name_is

pub own_names : (xs : List (List ℕ)) → same_names xs xs ≡ true
own_names = own_list same_name own_name

operand_is : (a b : CarriedOperand) → same_operand a b ≡ true → a ≡ b
operand_is a b h =
    let p = and_parts _ _ h in
    λ i. record { keyword = option_is same_name name_is a.keyword b.keyword p.0 i; text = name_is a.text b.text p.1 i }

own_operand : (a : CarriedOperand) → same_operand a a ≡ true
own_operand a = both_true (own_option same_name own_name a.keyword) (own_name a.text)

pub operands_are : (xs ys : List CarriedOperand) → same_operands xs ys ≡ true → xs ≡ ys
operands_are = list_is same_operand operand_is

pub own_operands : (xs : List CarriedOperand) → same_operands xs xs ≡ true
own_operands = own_list same_operand own_operand

pub kind_is : (a b : PathKind) → same_kind a b ≡ true → a ≡ b
kind_is Dedicated Dedicated h = refl
kind_is Shared Shared h = refl
kind_is Reconfigurable Reconfigurable h = refl
kind_is _ _ h = cc

pub own_kind : (a : PathKind) → same_kind a a ≡ true
own_kind Dedicated = refl
own_kind Shared = refl
own_kind Reconfigurable = refl

pub link_is : (a b : Link) → same_link a b ≡ true → a ≡ b
link_is link.None link.None h = refl
link_is (link.Short a) (link.Short b) h = ap link.Short (number_is a b h)
link_is (link.Long a) (link.Long b) h = ap link.Long (number_is a b h)
link_is _ _ h = cc

pub own_link : (a : Link) → same_link a a ≡ true
own_link link.None = refl
own_link (link.Short a) = own_number a
own_link (link.Long a) = own_number a

css_path_is : (a b : CssPath) → same_css_path a b ≡ true → a ≡ b
css_path_is a b h = let p = and_parts _ _ h in
    λ i. record { css = number_is a.css b.css p.0 i; path = number_is a.path b.path p.1 i }

own_css_path : (a : CssPath) → same_css_path a a ≡ true
own_css_path a = both_true (own_number a.css) (own_number a.path)

range_is : (a b : UnitRange) → same_range a b ≡ true → a ≡ b
range_is a b h = let p = and_parts _ _ h in
    λ i. record { start = number_is a.start b.start p.0 i; count = number_is a.count b.count p.1 i }

own_range : (a : UnitRange) → same_range a a ≡ true
own_range a = both_true (own_number a.start) (own_number a.count)

css_link_is : (a b : CssLink) → same_css_link a b ≡ true → a ≡ b
css_link_is a b h = let p = and_parts _ _ h in
    λ i. record { css = number_is a.css b.css p.0 i; link = link_is a.link b.link p.1 i }

own_css_link : (a : CssLink) → same_css_link a a ≡ true
own_css_link a = both_true (own_number a.css) (own_link a.link)

-- ---- the records of each kind

image_is : (a b : ImageRecord) → same_image a b ≡ true → a ≡ b
image_is a b h =
    let p = and_parts _ _ h in let q = and_parts _ _ p.0 in
    λ i. record {
      css = number_is a.css b.css q.0 i;
      mif = number_is a.mif b.mif q.1 i;
      name = name_is a.name b.name p.1 i;
    }

limit_is : (a b : LimitRecord) → same_limit a b ≡ true → a ≡ b
limit_is a b h =
    let p = and_parts _ _ h in let q = and_parts _ _ p.0 in
    λ i. record {
      css = number_is a.css b.css q.0 i;
      set = number_is a.set b.set q.1 i;
      limit = number_is a.limit b.limit p.1 i;
    }

path_is : (a b : PathRecord) → same_path a b ≡ true → a ≡ b
path_is a b h =
    let p = and_parts _ _ h in let q = and_parts _ _ p.0 in let r = and_parts _ _ q.0 in let s = and_parts _ _ r.0 in
    let t = and_parts _ _ s.0 in
    λ i. record {
      css = number_is a.css b.css t.0 i;
      number = number_is a.number b.number t.1 i;
      kind = kind_is a.kind b.kind s.1 i;
      access = names_are a.access b.access r.1 i;
      candidates = names_are a.candidates b.candidates q.1 i;
      carried = operands_are a.carried b.carried p.1 i;
    }

unit_is : (a b : UnitRecord) → same_unit a b ≡ true → a ≡ b
unit_is a b h =
    let p = and_parts _ _ h in let q = and_parts _ _ p.0 in let r = and_parts _ _ q.0 in let s = and_parts _ _ r.0 in
    let t = and_parts _ _ s.0 in
    λ i. record {
      number = number_is a.number b.number t.0 i;
      paths = list_is same_css_path css_path_is a.paths b.paths t.1 i;
      ranges = list_is same_range range_is a.ranges b.ranges s.1 i;
      links = list_is same_css_link css_link_is a.links b.links r.1 i;
      cuadd = option_is nat_eq number_is a.cuadd b.cuadd q.1 i;
      carried = operands_are a.carried b.carried p.1 i;
    }

device_is : (a b : DeviceRecord) → same_device a b ≡ true → a ≡ b
device_is a b h =
    let p = and_parts _ _ h in let q = and_parts _ _ p.0 in let r = and_parts _ _ q.0 in let s = and_parts _ _ r.0 in
    let t = and_parts _ _ s.0 in
    λ i. record {
      set = number_is a.set b.set t.0 i;
      number = number_is a.number b.number t.1 i;
      units = list_is nat_eq number_is a.units b.units s.1 i;
      unit_address = number_is a.unit_address b.unit_address r.1 i;
      candidates = option_is same_names names_are a.candidates b.candidates q.1 i;
      carried = operands_are a.carried b.carried p.1 i;
    }

online_is : (a b : OnlineRecord) → same_online a b ≡ true → a ≡ b
online_is a b h =
    let p = and_parts _ _ h in let q = and_parts _ _ p.0 in
    λ i. record {
      css = number_is a.css b.css q.0 i;
      path = number_is a.path b.path q.1 i;
      name = name_is a.name b.name p.1 i;
    }

own_path : (a : PathRecord) → same_path a a ≡ true
own_path a = both_true (both_true
    (both_true (both_true (both_true (own_number a.css) (own_number a.number)) (own_kind a.kind)) (own_names a.access))
    (own_names a.candidates)) (own_operands a.carried)

own_unit : (a : UnitRecord) → same_unit a a ≡ true
own_unit a = both_true (both_true
    (both_true (both_true (both_true (own_number a.number) (own_list same_css_path own_css_path a.paths))
    (own_list same_range own_range a.ranges)) (own_list same_css_link own_css_link a.links))
    (own_option nat_eq own_number a.cuadd)) (own_operands a.carried)

own_device : (a : DeviceRecord) → same_device a a ≡ true
own_device a = both_true
    (both_true (both_true (both_true (both_true (own_number a.set) (own_number a.number))
    (own_list nat_eq own_number a.units))
    (own_number a.unit_address)) (own_option same_names own_names a.candidates)) (own_operands a.carried)

-- ---- records

pub record_is : (a b : Rec) → same_record a b ≡ true → a ≡ b
record_is (id a) (id b) h = ap id (operands_are a b h)
record_is (resource a) (resource b) h = ap resource (operands_are a b h)
record_is (image a) (image b) h = ap image (image_is a b h)
record_is (limit a) (limit b) h = ap limit (limit_is a b h)
record_is (path a) (path b) h = ap path (path_is a b h)
record_is (unit a) (unit b) h = ap unit (unit_is a b h)
record_is (device a) (device b) h = ap device (device_is a b h)
record_is (online a) (online b) h = ap online (online_is a b h)
record_is _ _ h = cc

pub own_record : (a : Rec) → same_record a a ≡ true
own_record (id a) = own_operands a
own_record (resource a) = own_operands a
own_record (image a) = both_true (both_true (own_number a.css) (own_number a.mif)) (own_name a.name)
own_record (limit a) = both_true (both_true (own_number a.css) (own_number a.set)) (own_number a.limit)
own_record (path a) = own_path a
own_record (unit a) = own_unit a
own_record (device a) = own_device a
own_record (online a) = both_true (both_true (own_number a.css) (own_number a.path)) (own_name a.name)

-- ---- what is at a key

undone : (b : Bool) → not b ≡ false → b ≡ true
undone true h = refl
undone false h = cc

-- what doesn't differ is equal, and the other way round
pub not_differing : (a b : Option Rec) → not (option_eq same_record a b) ≡ false → a ≡ b
not_differing a b h = option_is same_record record_is a b (undone (option_eq same_record a b) h)

pub equal_are_same : (a b : Option Rec) → a ≡ b → not (option_eq same_record a b) ≡ false
equal_are_same a b e = ap not (ap (option_eq same_record a) (sym e) ∙ own_option same_record own_record a)
