-- The view at the number of a device, and that there is none where it has no number.
use Rattle.std.proofs.Common.{◌≡◌, ℕ, ◌&&◌, Bool, true, false, cond, not, List, []}
use Rattle.std.proofs.Common.{◌∷◌, Option, None, Some, refl, sym, ap, ◌∙◌}
use Rattle.std.specs.Prelude.{is_some}
use Rattle.std.specs.FinMap.{get}
use Rattle.std.specs.List.{list_any}
use Rattle.std.specs.Option.{option_and_then}
use Rattle.std.proofs.lemmas.Bool.{false≢true}
use Rattle.iocm_model.specs.Machine.Configuration.{Configuration, Lookup, IsKeyed, lookup_of, as_device}
use Rattle.iocm_model.specs.Machine.Configuration.{as_image}
use Rattle.iocm_model.specs.Machine.Numbering.{Numbering, AreNumbersOf, is_empty, cells_of, is_reached}
use Rattle.iocm_model.specs.Machine.Numbering.{is_record_reached}
use Rattle.iocm_model.specs.Machine.PathList.{path_list}
use Rattle.iocm_model.specs.Machine.Record.{ImageRecord, DeviceRecord, Rec}
use Rattle.iocm_model.specs.Machine.Sight.{is_candidate, reaches}
use Rattle.iocm_model.specs.Machine.View.{image_view, view_at, view_if_seen, view_of}
use Rattle.iocm_model.proofs.Numbers.Cells.{has_device}
use Rattle.iocm_model.proofs.Numbers.Opening.{reached_places_are_of_devices}
use Rattle.iocm_sight.proofs.SightTests.{is_view}
use Rattle.iocm_sight.specs.Counts.{has_online}
use Rattle.iocm_sight.specs.Seen.{seen_if_wanted}
use Rattle.iocm_sight.specs.SeenViews.{place_for, subchannel_for, AreThere, SeenIsTheView}

-- at its number
view_there : (c : Configuration) (n : Numbering) → AreNumbersOf c n → (i : ImageRecord) (d : DeviceRecord)
    → AreThere c i d → (number : ℕ) → get n (place_for i d) ≡ Some number
    → view_at c n (subchannel_for i d number) ≡ view_if_seen (lookup_of c) i.css i.name d
view_there c n are i d there number is =
    ap (λ (r : Option Rec). option_and_then (λ (j : ImageRecord). option_and_then (image_view (lookup_of c) j d.set)
    (get (cells_of n) (record { css = i.css; set = d.set; number = number }))) (option_and_then as_image r))
    there.image_there
    ∙ ap (option_and_then (image_view (lookup_of c) i d.set)) (has_device n are.apart (place_for i d) number is)
    ∙ ap (λ (r : Option Rec). option_and_then (view_if_seen (lookup_of c) i.css i.name) (option_and_then as_device r))
    there.device_there

-- without paths nobody sees it
no_path : (c : Lookup) (css : ℕ) (name paths : List ℕ) → false ≡ not (is_empty paths)
    → list_any (reaches c css name) paths ≡ false
no_path c css name [] none = refl
no_path c css name (p ∷ paths) some = absurd (false≢true some)

and_false : (a b : Bool) → b ≡ false → (a && b) ≡ false
and_false true b is = is
and_false false b is = refl

unreached : (c : Configuration) (n : Numbering) → IsKeyed c → AreNumbersOf c n → (i : ImageRecord) (d : DeviceRecord)
    → AreThere c i d → get n (place_for i d) ≡ None → false ≡ is_reached (lookup_of c) i.css d
unreached c n keyed are i d there none =
    ap is_some (sym none) ∙ are.exact (place_for i d)
    ∙ reached_places_are_of_devices c (place_for i d) keyed there.subsystem there.set
    ∙ ap (is_record_reached (lookup_of c) i.css) there.device_there

pub not_seen : (c : Lookup) (css : ℕ) (name : List ℕ) (d : DeviceRecord) → false ≡ is_reached c css d
    → view_if_seen c css name d ≡ None
not_seen c css name d none = ap (λ b. cond b (Some (view_of c css name d)) None)
    (and_false (is_candidate name d.candidates) (list_any (reaches c css name) (path_list c css d.units))
    (no_path c css name (path_list c css d.units) none))

pub seen_is_the_view : SeenIsTheView
seen_is_the_view w c n keyed are i d there = record {
  numbered = λ number is. ap (option_and_then (seen_if_wanted w i)) (sym (view_there c n are i d there number is));
  counted = λ number is. sym (ap is_some (view_there c n are i d there number is)
      ∙ is_view (lookup_of c) i.css i.name d);
  counted_with = λ number online is. ap (has_online online) (sym (view_there c n are i d there number is));
  unnumbered = λ none. not_seen (lookup_of c) i.css i.name d (unreached c n keyed are i d there none);
}
