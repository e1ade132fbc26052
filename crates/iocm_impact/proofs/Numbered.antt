-- What is told doesn't depend on the number of the device, as the views before and after have the same number.
use Rattle.std.proofs.Common.{◌≡◌, ℕ, nat_eq, nat_lt, ◌==◌, ◌&&◌, ◌||◌, Bool, true, false, not, cond, Option, Some}
use Rattle.std.proofs.Common.{None, count_ones, refl, sym, ap, ◌∙◌, eq-eqb}
use Rattle.std.specs.Cmp.Lexicographic.{pointwise}
use Rattle.std.specs.FinMap.{get}
use Rattle.std.specs.Option.{option_and_then, option_eq, option_map, option_map_or}
use Rattle.std.proofs.lemmas.Option.{cond_some}
use Rattle.iocm_types.specs.declared.image.Image.{Image}
use Rattle.iocm_types.specs.declared.key.Key.{Key}
use Rattle.iocm_types.specs.declared.key.Key.TheVariants as key
use Rattle.iocm_types.specs.declared.view.View.{View}
use Rattle.iocm_model.specs.Change.Edit.{same_view}
use Rattle.iocm_model.specs.Machine.Configuration.{Configuration, IsKeyed, Lookup, lookup_of, as_device}
use Rattle.iocm_model.specs.Machine.Record.{Rec, ImageRecord, DeviceRecord, key_of, id, resource, image, limit, path}
use Rattle.iocm_model.specs.Machine.Record.{unit, device, online}
use Rattle.iocm_model.specs.Machine.Sight.{sees}
use Rattle.iocm_model.specs.Machine.View.{device_record, view_of}
use Rattle.iocm_model.proofs.Machine.OwnKeys.{keyed_own}
use Rattle.iocm_sight.specs.declared.devices.DeviceKey.{DeviceKey}
use Rattle.iocm_plan.specs.Effects.{effect_between, has_row}
use Rattle.iocm_plan.specs.Left.{effect_left, is_asked_of_both, is_told, no_effect}
use Rattle.iocm_plan.specs.Seen.{image_record, seen, side, side_with, view_in}
use Rattle.iocm_plan.specs.ToldAlike.{unnumbered, without_number}
use Rattle.iocm_plan.specs.declared.effect.Effect.{Effect}
use Rattle.iocm_impact.specs.Impact.{Change, effect_on}
use Rattle.iocm_impact.specs.Laws.{IsOfKeyed}
use Rattle.iocm_impact.specs.Marks.{marks_of}

-- ---- a view has the number of its device

abbrev its_number : Key → ℕ
its_number (key.Device set number) = number
its_number _ = 0

device_there : (found : Option Rec) (set number : ℕ) (d : DeviceRecord)
    → ((r : Rec) → found ≡ Some r → key_of r ≡ key.Device set number)
    → option_and_then as_device found ≡ Some d → d.number ≡ number
device_there None set number d own is = cc
device_there (Some (device x)) set number d own is =
    sym (ap (λ (o : Option DeviceRecord). option_map_or (λ (e : DeviceRecord). e.number) o 0) is)
    ∙ ap its_number (own (device x) refl)
device_there (Some (id x)) set number d own is = cc
device_there (Some (resource x)) set number d own is = cc
device_there (Some (image x)) set number d own is = cc
device_there (Some (limit x)) set number d own is = cc
device_there (Some (path x)) set number d own is = cc
device_there (Some (unit x)) set number d own is = cc
device_there (Some (online x)) set number d own is = cc

view_number : (c : Lookup) (number : ℕ) (i : Option ImageRecord) (d : Option DeviceRecord) (v : View)
    → ((e : DeviceRecord) → d ≡ Some e → e.number ≡ number)
    → option_and_then view_in (option_and_then (λ e. option_map (side_with c e) i) d) ≡ Some v → v.device ≡ number
view_number c number i None v own is = cc
view_number c number None (Some e) v own is = cc
view_number c number (Some r) (Some e) v own is =
    sym (ap (λ (u : View). u.device)
    (cond_some (sees c r.css r.name e) (view_of c r.css r.name e) v is).1) ∙ own e refl

pub seen_number : (c : Configuration) → IsKeyed c → (i : Image) (set number : ℕ) (v : View)
    → seen (side (lookup_of c) i set number) ≡ Some v → v.device ≡ number
seen_number c keyed i set number v is =
    view_number (lookup_of c) number (image_record (lookup_of c) i) (device_record (lookup_of c) set number) v
    (λ e there. device_there (get c (key.Device set number)) set number e
    (keyed_own c keyed (key.Device set number)) there) is

-- ---- so they are the same if they are without their numbers

pub record HaveNumber (number : ℕ) (b a : Option View) : Type 0 where
  pub before : (v : View) → b ≡ Some v → v.device ≡ number
  pub after : (v : View) → a ≡ Some v → v.device ≡ number

same_numbers : (number : ℕ) (v u : View) → HaveNumber number (Some v) (Some u)
    → same_view (unnumbered v) (unnumbered u) ≡ same_view v u
same_numbers number v u have =
    let one : nat_eq v.device u.device ≡ true =
    eq-eqb v.device u.device (have.before v refl ∙ sym (have.after u refl)) in
    ap (λ t. t && pointwise nat_eq v.paths u.paths && nat_eq v.pim u.pim && nat_eq v.pam u.pam) (sym one)

sight_unnumbered : (number : ℕ) (b a : Option View) → HaveNumber number b a
    → option_eq same_view (option_map unnumbered b) (option_map unnumbered a) ≡ option_eq same_view b a
sight_unnumbered number None None have = refl
sight_unnumbered number None (Some u) have = refl
sight_unnumbered number (Some v) None have = refl
sight_unnumbered number (Some v) (Some u) have = same_numbers number v u have

pub row_unnumbered : (number : ℕ) (e : Effect) → HaveNumber number e.before e.after
    → has_row (without_number e) ≡ has_row e
row_unnumbered number e have = ap (λ t. not t || e.interrupted) (sight_unnumbered number e.before e.after have)

abbrev effect_of : Option View → Option View → Bool → Bool → Effect
effect_of b a interrupted offon = record { before = b; after = a; interrupted = interrupted; offon = offon }

marks_by_views : (number : ℕ) (b a : Option View) (interrupted offon : Bool) → HaveNumber number b a
    → marks_of (without_number (effect_of b a interrupted offon)) ≡ marks_of (effect_of b a interrupted offon)
marks_by_views number None None interrupted offon have = refl
marks_by_views number None (Some u) interrupted offon have = refl
marks_by_views number (Some v) None interrupted offon have = refl
marks_by_views number (Some v) (Some u) interrupted offon have = λ x. record {
  gone = false;
  came = false;
  changed = not (same_numbers number v u have x);
  same = same_numbers number v u have x;
  lost = nat_lt 0 (count_ones v.pam) && (count_ones u.pam == 0);
  interrupted = interrupted;
  one_path = nat_lt 1 (count_ones v.pam) && (count_ones u.pam == 1);
  off_and_on = offon;
}

pub marks_unnumbered : (number : ℕ) (e : Effect) → HaveNumber number e.before e.after
    → marks_of (without_number e) ≡ marks_of e
marks_unnumbered number e have = marks_by_views number e.before e.after e.interrupted e.offon have

-- ---- what is left of a change between configurations that are keyed

if_left : (t : Bool) (number : ℕ) (e : Effect) → HaveNumber number e.before e.after
    → HaveNumber number (cond t e no_effect).before (cond t e no_effect).after
if_left true number e have = have
if_left false number e have = record { before = λ v is. cc; after = λ v is. cc }

pub have_number : (x : Change) → IsOfKeyed x → (i : Image) (k : DeviceKey)
    → HaveNumber k.number (effect_on x i k).before (effect_on x i k).after
have_number x keyed i k =
    let b = side (lookup_of x.before) i k.set k.number in
    let a = side (lookup_of x.after) i k.set k.number in
    if_left (is_asked_of_both x.wanted k b a && is_told x.is_lost (seen b) (seen a)) k.number (effect_between b a)
    (record {
      before = λ v is. seen_number x.before keyed.before i k.set k.number v is;
      after = λ v is. seen_number x.after keyed.after i k.set k.number v is;
    })
