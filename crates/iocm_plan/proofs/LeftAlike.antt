-- Of devices that are alike filters leave the same, if the numbers of both are asked for.
use Rattle.std.proofs.Common.{◌≡◌, ℕ, nat_lt, ◌==◌, ◌&&◌, ◌||◌, Bool, true, false, not, cond, List, Option, Some, None}
use Rattle.std.proofs.Common.{refl, sym, ap, ◌∙◌}
use Rattle.std.specs.Option.{option_eq, option_map}
use Rattle.std.proofs.lemmas.Bool.{and_parts}
use Rattle.iocm_types.specs.declared.image.Image.{Image}
use Rattle.iocm_types.specs.declared.view.View.{View}
use Rattle.iocm_model.specs.Machine.Configuration.{Configuration, Lookup, lookup_of}
use Rattle.iocm_model.specs.Machine.Record.{ImageRecord, DeviceRecord}
use Rattle.iocm_filter.specs.Wanted.{Wanted, wants_view}
use Rattle.iocm_sight.specs.Connected.{wants_units}
use Rattle.iocm_sight.specs.WantedRows.{wants_image}
use Rattle.iocm_sight.specs.declared.devices.DeviceKey.{DeviceKey}
use Rattle.iocm_plan.specs.Effects.{effect}
use Rattle.iocm_plan.specs.Left.{effect_left, is_asked, is_asked_of_both, is_told, is_view_asked, no_effect}
use Rattle.iocm_plan.specs.Runs.{are_alike, device_in, is_kept, is_seen_alike, same_truth, wants_key}
use Rattle.iocm_plan.specs.Seen.{Side, image_record, on, seen, side_with, view_in}
use Rattle.iocm_plan.specs.ToldAlike.{unnumbered, without_number}
use Rattle.iocm_plan.specs.declared.effect.Effect.{Effect}
use Rattle.iocm_plan.proofs.ToldAlike.{by_sides, on_alike, same_units, seen_alike, side_on, told_alike}

-- ---- what is asked for doesn't depend on the device's number in the view

abbrev asked_by : Wanted → ImageRecord → List ℕ → Option View → Bool
asked_by w i units None = false
asked_by w i units (Some v) = wants_image w i && wants_units w units && wants_view w i.css v

asked_is : (w : Wanted) (s : Side) (v : Option View)
    → is_view_asked w s v ≡ asked_by w s.image s.device.units (option_map unnumbered v)
asked_is w s None = refl
asked_is w s (Some v) = refl

asked_alike : (w : Wanted) (c : Lookup) (i : ImageRecord) (d e : DeviceRecord) → is_seen_alike d e ≡ true
    → is_asked w (Some (side_with c d i)) ≡ is_asked w (Some (side_with c e i))
asked_alike w c i d e h = asked_is w (side_with c d i) (view_in (side_with c d i))
    ∙ (λ x. asked_by w i (same_units d e h x) (seen_alike c i d e h x))
    ∙ sym (asked_is w (side_with c e i) (view_in (side_with c e i)))

module _ (c : Lookup) (i : Option ImageRecord) (k l : Option DeviceRecord) (h : option_eq is_seen_alike k l ≡ true)
  where
    sides_asked : (w : Wanted) → is_asked w (side_on c i k) ≡ is_asked w (side_on c i l)
    sides_asked w = by_sides (λ b a. is_asked w b ≡ is_asked w a) c i k l h refl
        (λ r x y kx ly alike. asked_alike w c r x y alike)

    sides_on : on (seen (side_on c i k)) ≡ on (seen (side_on c i l))
    sides_on = by_sides (λ b a. on (seen b) ≡ on (seen a)) c i k l h refl (λ r x y kx ly alike. on_alike c r x y alike)

-- ---- what is left

under_test : (t : Bool) (e f : Effect) → without_number e ≡ without_number f
    → without_number (cond t e no_effect) ≡ without_number (cond t f no_effect)
under_test true e f h = h
under_test false e f h = refl

module _ (w : Wanted) (is_lost : Bool) (c d : Configuration) (i : Image) (k l : DeviceKey)
    (alike : are_alike c d k l ≡ true) (first : wants_key w k ≡ true) (next : wants_key w l ≡ true) where
  abbrev before : DeviceKey → Option Side
  before key = side_on (lookup_of c) (image_record (lookup_of c) i) (device_in c key)

  abbrev after : DeviceKey → Option Side
  after key = side_on (lookup_of d) (image_record (lookup_of d) i) (device_in d key)

  abbrev test : DeviceKey → Bool
  test key = is_asked_of_both w key (before key) (after key) && is_told is_lost (seen (before key)) (seen (after key))

  both_alike : (option_eq is_seen_alike (device_in c k) (device_in c l) ≡ true)
      × (option_eq is_seen_alike (device_in d k) (device_in d l) ≡ true)
  both_alike = and_parts (option_eq is_seen_alike (device_in c k) (device_in c l))
      (option_eq is_seen_alike (device_in d k) (device_in d l))
      (and_parts (option_eq is_seen_alike (device_in c k) (device_in c l)
      && option_eq is_seen_alike (device_in d k) (device_in d l))
      (same_truth (is_kept (device_in c k) (device_in d k)) (is_kept (device_in c l) (device_in d l))) alike).0

  same_test : test k ≡ test l
  same_test =
      let asked_before = sides_asked (lookup_of c) (image_record (lookup_of c) i) (device_in c k) (device_in c l)
      both_alike.0 w in
      let asked_after = sides_asked (lookup_of d) (image_record (lookup_of d) i) (device_in d k) (device_in d l)
      both_alike.1 w in
      let on_before = sides_on (lookup_of c) (image_record (lookup_of c) i) (device_in c k) (device_in c l)
      both_alike.0 in
      let on_after = sides_on (lookup_of d) (image_record (lookup_of d) i) (device_in d k) (device_in d l)
      both_alike.1 in
      λ x. ((first ∙ sym next) x && (asked_before x || asked_after x))
      && (not is_lost || (nat_lt 0 (on_before x) && (on_after x == 0)))

  pub left_alike : without_number (effect_left w is_lost (lookup_of c) (lookup_of d) i k)
      ≡ without_number (effect_left w is_lost (lookup_of c) (lookup_of d) i l)
  left_alike =
      ap (λ t. without_number (cond t (effect (lookup_of c) (lookup_of d) i k.set k.number) no_effect)) same_test
      ∙ under_test (test l) (effect (lookup_of c) (lookup_of d) i k.set k.number)
      (effect (lookup_of c) (lookup_of d) i l.set l.number) (told_alike c d i k l alike)
