-- What is seen of a device is the view at its number, and nothing where it has no number.
use Rattle.std.proofs.Common.{◌≡◌, ℕ, false, Option, None, Some, refl, sym, ap, ◌∙◌}
use Rattle.std.specs.Prelude.{is_some}
use Rattle.std.specs.FinMap.{get}
use Rattle.std.specs.Option.{option_and_then, option_map, option_map_or}
use Rattle.iocm_types.specs.declared.key.Key.{Key}
use Rattle.iocm_types.specs.declared.key.Key.TheVariants as key
use Rattle.iocm_model.specs.Machine.Configuration.{Lookup, lookup_of, as_device, as_image}
use Rattle.iocm_model.specs.Machine.Numbering.{is_reached, is_record_reached}
use Rattle.iocm_model.specs.Machine.Record.{Rec, ImageRecord, DeviceRecord, key_of, id, resource, image, limit, path}
use Rattle.iocm_model.specs.Machine.Record.{unit, device, online}
use Rattle.iocm_model.specs.Machine.View.{device_record, image_view, view_if_seen}
use Rattle.iocm_model.proofs.Machine.OwnKeys.{keyed_own}
use Rattle.iocm_model.proofs.Numbers.Cells.{has_device}
use Rattle.iocm_model.proofs.Numbers.Opening.{reached_places_are_of_devices}
use Rattle.iocm_sight.proofs.SeenViews.{not_seen}
use Rattle.iocm_plan.specs.Laws.{SeenIsTheView, place_for}
use Rattle.iocm_plan.specs.Seen.{image_record, side_with, view_in}

-- what is seen, by the records of the image and the device
by_records : (c : Lookup) (i : Option ImageRecord) (d : Option DeviceRecord)
    → option_and_then view_in (option_and_then (λ e. option_map (side_with c e) i) d)
    ≡ option_and_then (λ (r : ImageRecord). option_and_then (view_if_seen c r.css r.name) d) i
by_records c None None = refl
by_records c None (Some d) = refl
by_records c (Some i) None = refl
by_records c (Some i) (Some d) = refl

-- ---- records have the numbers of their keys

abbrev its_css : Key → ℕ
its_css (key.Image css mif) = css
its_css _ = 0

image_there : (found : Option Rec) (css mif : ℕ) (i : ImageRecord)
    → ((r : Rec) → found ≡ Some r → key_of r ≡ key.Image css mif)
    → option_and_then as_image found ≡ Some i → i.css ≡ css
image_there None css mif i own is = cc
image_there (Some (image r)) css mif i own is =
    sym (ap (λ (o : Option ImageRecord). option_map_or (λ (x : ImageRecord). x.css) o 0) is)
    ∙ ap its_css (own (image r) refl)
image_there (Some (id x)) css mif i own is = cc
image_there (Some (resource x)) css mif i own is = cc
image_there (Some (limit x)) css mif i own is = cc
image_there (Some (path x)) css mif i own is = cc
image_there (Some (unit x)) css mif i own is = cc
image_there (Some (device x)) css mif i own is = cc
image_there (Some (online x)) css mif i own is = cc

device_there : (c : Lookup) (css : ℕ) (found : Option Rec) (d : DeviceRecord)
    → option_and_then as_device found ≡ Some d → is_record_reached c css found ≡ is_reached c css d
device_there c css None d is = cc
device_there c css (Some (device x)) d is =
    ap (λ (o : Option DeviceRecord). option_map_or (is_reached c css) o false) is
device_there c css (Some (id x)) d is = cc
device_there c css (Some (resource x)) d is = cc
device_there c css (Some (image x)) d is = cc
device_there c css (Some (limit x)) d is = cc
device_there c css (Some (path x)) d is = cc
device_there c css (Some (unit x)) d is = cc
device_there c css (Some (online x)) d is = cc

-- ---- what no path leads to isn't seen

nothing_seen : (c : Lookup) (css : ℕ) (i : Option ImageRecord) (d : Option DeviceRecord)
    → ((r : ImageRecord) → i ≡ Some r → r.css ≡ css) → ((e : DeviceRecord) → d ≡ Some e → false ≡ is_reached c css e)
    → option_and_then (λ (r : ImageRecord). option_and_then (view_if_seen c r.css r.name) d) i ≡ None
nothing_seen c css None d its none = refl
nothing_seen c css (Some r) None its none = refl
nothing_seen c css (Some r) (Some e) its none =
    not_seen c r.css r.name e (none e refl ∙ ap (λ n. is_reached c n e) (sym (its r refl)))

pub seen_is_the_view : SeenIsTheView
seen_is_the_view c n keyed are i set number low few = record {
  numbered = λ k is. by_records (lookup_of c) (image_record (lookup_of c) i) (device_record (lookup_of c) set number)
      ∙ sym (ap (λ (d : Option ℕ). option_and_then (λ (r : ImageRecord).
      option_and_then (image_view (lookup_of c) r set) d)
      (image_record (lookup_of c) i)) (has_device n are.apart (place_for i set number) k is));
  unnumbered = λ none.
      by_records (lookup_of c) (image_record (lookup_of c) i) (device_record (lookup_of c) set number)
      ∙ nothing_seen (lookup_of c) i.css (image_record (lookup_of c) i) (device_record (lookup_of c) set number)
      (λ r is. image_there (get c (key.Image i.css i.mif)) i.css i.mif r (keyed_own c keyed (key.Image i.css i.mif)) is)
      (λ d is. ap is_some (sym none) ∙ are.exact (place_for i set number)
      ∙ reached_places_are_of_devices c (place_for i set number) keyed low few
      ∙ device_there (lookup_of c) i.css (get c (key.Device set number)) d is);
}
