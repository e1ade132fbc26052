-- A path has reasons exactly if its route is another.
use Rattle.std.proofs.Common.{◌≡◌, ℕ, ◌==◌, ◌&&◌, ◌||◌, cond, Bool, true, false, not, List, [], ◌∷◌, ◌++◌, Option, Some}
use Rattle.std.proofs.Common.{None, refl, sym, ap, ◌∙◌}
use Rattle.std.specs.Option.{option_eq}
use Rattle.iocm_types.specs.declared.key.Key.{Key}
use Rattle.iocm_types.specs.declared.key.Key.TheVariants as key
use Rattle.iocm_difference.specs.Same.{same_name, same_operands}
use Rattle.iocm_model.specs.Machine.Record.{UnitRecord}
use Rattle.iocm_model.specs.Rules.EachRule.{cuadd_or_zero}
use Rattle.iocm_unit_rules.specs.Links.{share_link_on}
use Rattle.iocm_plan.specs.Effects.{stays_on}
use Rattle.iocm_plan.specs.Routes.{is_one_device, is_one_path, is_one_route, is_one_unit, path_at, unit_with}
use Rattle.iocm_plan.specs.Seen.{Side}
use Rattle.iocm_plan.specs.declared.runs.DeviceRun.{DeviceRun}
use Rattle.iocm_impact.specs.declared.named_image.NamedImage.{NamedImage}
use Rattle.iocm_offon.specs.Laws.{EachPathOffAndOnHasAReason, OtherRoutesHaveReasons, is_none}
use Rattle.iocm_offon.specs.Reasons.{device_reasons, has_moved, image_key, image_reasons, is_over_another, leads_elsewhere}
use Rattle.iocm_offon.specs.Reasons.{device_key, path_key, path_reasons, reason, reason_if, reasons_at, unit_reasons}
use Rattle.iocm_offon.specs.Rerouted.{spot}
use Rattle.iocm_offon.specs.declared.reason.Reach.{Reach}
use Rattle.iocm_offon.specs.declared.reason.Reach.TheVariants.{EachPath, ThisPath, OverAnother}
use Rattle.iocm_offon.specs.declared.reason.Reason.{Reason}
use Rattle.iocm_offon.specs.declared.reason.Spot.{Spot}

none_of_both : (xs ys : List Reason) → is_none (xs ++ ys) ≡ (is_none xs && is_none ys)
none_of_both [] ys = refl
none_of_both (x ∷ xs) ys = refl

none_if : (b : Bool) (s : Spot) (object : Key) (reach : Reach) → is_none (reason_if b s object reach) ≡ not b
none_if true s object reach = refl
none_if false s object reach = refl

-- ---- the control unit

-- over one control unit that is reached in one way (w), at one link (l); m: the device is on others
kept_none : (w l m : Bool) (s : Spot) (object : Key)
    → (is_none (cond w (reason_if (not l) s object ThisPath) (reason s object EachPath ∷ [])) && not (m && false))
    ≡ (w && l)
kept_none true true true s object = refl
kept_none true true false s object = refl
kept_none true false true s object = refl
kept_none true false false s object = refl
kept_none false l true s object = refl
kept_none false l false s object = refl

-- over another one there is always a reason
other_none : (m : Bool) (s : Spot) (object : Key)
    → (is_none (reason_if (not m) s object OverAnother) && not (m && true)) ≡ false
other_none true s object = refl
other_none false s object = refl

no_unit : (m : Bool) → (true && not (m && false)) ≡ true
no_unit true = refl
no_unit false = refl

-- the parts of one control unit, put together
together : (c o l : Bool) → ((c && o) && l) ≡ (((true && c) && o) && l)
together c o l = refl

unit_none : (s : Spot) (m : Bool) (u v : Option UnitRecord)
    → (is_none (unit_reasons m s u v) && not (m && is_over_another u v))
    ≡ option_eq (is_one_unit s.path.css s.path.path) u v
unit_none s m None None = no_unit m
unit_none s m None (Some v) = other_none m s (key.Unit v.number)
unit_none s m (Some u) None = other_none m s (key.Unit u.number)
unit_none s m (Some u) (Some v) = by (u.number == v.number)
  where
    way : Bool
    way = (cuadd_or_zero u == cuadd_or_zero v) && same_operands u.carried v.carried

    link : Bool
    link = share_link_on s.path.css s.path.path u v

    by : (e : Bool)
        → (is_none (cond e (cond way (reason_if (not link) s (key.Unit v.number) ThisPath)
        (reason s (key.Unit v.number) EachPath ∷ []))
        (reason_if (not m) s (key.Unit v.number) OverAnother)) && not (m && not e))
        ≡ (e && (cuadd_or_zero u == cuadd_or_zero v) && same_operands u.carried v.carried && link)
    by true = kept_none way link m s (key.Unit v.number)
    by false = other_none m s (key.Unit v.number)

-- ---- all parts of a route: n that the image has one name, p that the path is one, d the device; c that the control
-- unit is no reason, x that the device is on others there

all_none : (n p d c x : Bool)
    → ((not (not n) && not (not p)) && (c && not (x || not d))) ≡ (n && d && p && (c && not x))
all_none false p d c x = refl
all_none true false true c x = refl
all_none true false false c x = refl
all_none true true false false x = refl
all_none true true false true true = refl
all_none true true false true false = refl
all_none true true true false x = refl
all_none true true true true true = refl
all_none true true true true false = refl

at_spot : (s : Spot) (b a : Side)
    → is_none (reasons_at s b a)
    ≡ (same_name b.image.name a.image.name && is_one_device b.device a.device
    && option_eq is_one_path (path_at b s.path.path) (path_at a s.path.path)
    && option_eq (is_one_unit s.path.css s.path.path) (unit_with b s.path.path) (unit_with a s.path.path))
at_spot s b a =
    let p = s.path.path in
    let n = same_name b.image.name a.image.name in
    let d = is_one_device b.device a.device in
    let one = option_eq is_one_path (path_at b p) (path_at a p) in
    let us = unit_reasons (has_moved b a) s (unit_with b p) (unit_with a p) in
    let x = has_moved b a && is_over_another (unit_with b p) (unit_with a p) in
    none_of_both (image_reasons s b a ++ path_reasons s b a) (us ++ device_reasons s b a)
    ∙ (λ j. none_of_both (image_reasons s b a) (path_reasons s b a) j && none_of_both us (device_reasons s b a) j)
    ∙ (λ j. (none_if (not n) s (image_key s) EachPath j && none_if (not one) s (path_key s) ThisPath j)
    && (is_none us && none_if (leads_elsewhere s b a) s (device_key s) EachPath j))
    ∙ all_none n one d (is_none us) x
    ∙ ap (λ u. n && d && one && u) (unit_none s (has_moved b a) (unit_with b p) (unit_with a p))

pub other_routes : OtherRoutesHaveReasons
other_routes s b a css = at_spot s b a
    ∙ ap (λ c. same_name b.image.name a.image.name && is_one_device b.device a.device
    && option_eq is_one_path (path_at b s.path.path) (path_at a s.path.path)
    && option_eq (is_one_unit c s.path.path) (unit_with b s.path.path) (unit_with a s.path.path)) css

-- ---- of an image and devices

rerouted_or_not : (on one : Bool) (rs : List Reason) → is_none rs ≡ one → is_none (cond on rs []) ≡ not (on && not one)
rerouted_or_not true true rs h = h
rerouted_or_not true false rs h = h
rerouted_or_not false one rs h = refl

pub each_path : EachPathOffAndOnHasAReason
each_path i r b a p = rerouted_or_not (stays_on (Some b) (Some a) p) (is_one_route b a p)
    (reasons_at (spot i r b.image.css p) b a) (other_routes (spot i r b.image.css p) b a refl)
