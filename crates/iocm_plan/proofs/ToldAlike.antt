-- To devices that are alike a change does the same.
use Rattle.std.proofs.Common.{◌≡◌, ℕ, nat_eq, nat_lt, ◌&&◌, Bool, true, false, not, cond, List, Option, Some, None}
use Rattle.std.proofs.Common.{refl, sym, ap, ◌∙◌}
use Rattle.std.specs.List.{list_any}
use Rattle.std.specs.Option.{option_and_then, option_eq, option_map}
use Rattle.std.specs.Cmp.Lexicographic.{same_text}
use Rattle.std.proofs.lemmas.Bool.{and_parts, false≢true}
use Rattle.iocm_types.specs.declared.view.View.{View}
use Rattle.iocm_model.specs.Machine.Configuration.{Lookup, lookup_of}
use Rattle.iocm_model.specs.Machine.Mask.{is_online}
use Rattle.iocm_model.specs.Machine.PathList.{path_list, view_paths}
use Rattle.iocm_model.specs.Machine.Mask.{available, installed}
use Rattle.iocm_model.specs.Machine.Record.{ImageRecord, DeviceRecord}
use Rattle.iocm_model.specs.Machine.Sight.{is_candidate, reaches}
use Rattle.iocm_model.specs.Machine.View.{view_of}
use Rattle.iocm_difference.specs.Same.{same_name, same_names}
use Rattle.iocm_difference.proofs.SameRecords.{names_are, option_is}
use Rattle.iocm_plan.specs.Effects.{effect_between, interrupted, keeps_a_path, offon}
use Rattle.iocm_plan.specs.Routes.{first_of, is_one_device, is_one_path, is_one_unit, path_at, unit_over}
use Rattle.iocm_plan.specs.Runs.{device_in, is_kept, is_seen_alike, same_truth}
use Rattle.iocm_plan.specs.Seen.{Side, image_record, on, paths_of, side_with, view_in}
use Rattle.iocm_plan.specs.ToldAlike.{AlikeAreToldAlike, unnumbered, without_number}
use Rattle.iocm_plan.proofs.Alone.{alone_before}

-- ---- what is seen

pub same_units : (d e : DeviceRecord) → is_seen_alike d e ≡ true → d.units ≡ e.units
same_units d e h = same_text d.units e.units
    (sym (and_parts _ (option_eq same_names d.candidates e.candidates) h).0)

same_candidates : (d e : DeviceRecord) → is_seen_alike d e ≡ true → d.candidates ≡ e.candidates
same_candidates d e h = option_is same_names names_are d.candidates e.candidates
    (and_parts _ (option_eq same_names d.candidates e.candidates) h).1

unnumbered_if : (b : Bool) (v : View) → option_map unnumbered (cond b (Some v) None) ≡ cond b (Some (unnumbered v)) None
unnumbered_if true v = refl
unnumbered_if false v = refl

-- what is seen by control units and candidates, the device's number aside
abbrev seen_by : Lookup → ImageRecord → List ℕ → Option (List (List ℕ)) → Option View
seen_by c i units candidates =
    cond (is_candidate i.name candidates && list_any (reaches c i.css i.name) (path_list c i.css units))
    (Some (record {
      device = 0;
      paths = view_paths c i.css units;
      pim = installed c i.css i.name (view_paths c i.css units);
      pam = available c i.css i.name (view_paths c i.css units);
    })) None

seen_is : (c : Lookup) (i : ImageRecord) (d : DeviceRecord)
    → option_map unnumbered (view_in (side_with c d i)) ≡ seen_by c i d.units d.candidates
seen_is c i d = unnumbered_if
    (is_candidate i.name d.candidates && list_any (reaches c i.css i.name) (path_list c i.css d.units))
    (view_of c i.css i.name d)

pub seen_alike : (c : Lookup) (i : ImageRecord) (d e : DeviceRecord) → is_seen_alike d e ≡ true
    → option_map unnumbered (view_in (side_with c d i)) ≡ option_map unnumbered (view_in (side_with c e i))
seen_alike c i d e h = seen_is c i d
    ∙ (λ x. seen_by c i (same_units d e h x) (same_candidates d e h x)) ∙ sym (seen_is c i e)

own_paths : (v : Option View) → paths_of (option_map unnumbered v) ≡ paths_of v
own_paths None = refl
own_paths (Some v) = refl

own_on : (v : Option View) → on (option_map unnumbered v) ≡ on v
own_on None = refl
own_on (Some v) = refl

paths_alike : (c : Lookup) (i : ImageRecord) (d e : DeviceRecord) → is_seen_alike d e ≡ true
    → paths_of (view_in (side_with c d i)) ≡ paths_of (view_in (side_with c e i))
paths_alike c i d e h = sym (own_paths (view_in (side_with c d i))) ∙ ap paths_of (seen_alike c i d e h)
    ∙ own_paths (view_in (side_with c e i))

pub on_alike : (c : Lookup) (i : ImageRecord) (d e : DeviceRecord) → is_seen_alike d e ≡ true
    → on (view_in (side_with c d i)) ≡ on (view_in (side_with c e i))
on_alike c i d e h = sym (own_on (view_in (side_with c d i))) ∙ ap on (seen_alike c i d e h)
    ∙ own_on (view_in (side_with c e i))

-- ---- routes

-- two devices before, and the same two after
module _ (c d : Lookup) (i j : ImageRecord) (k l m n : DeviceRecord)
    (before : is_seen_alike k l ≡ true) (after : is_seen_alike m n ≡ true)
    (kept : is_one_device k m ≡ is_one_device l n) where
  -- one route, by whether the device keeps itself, and by its control units before and after
  abbrev one_route_by : Bool → List ℕ → List ℕ → ℕ → Bool
  one_route_by keeps units_before units_after p = same_name i.name j.name && keeps
      && option_eq is_one_path (path_at (side_with c k i) p) (path_at (side_with d m j) p)
      && option_eq (is_one_unit i.css p) (first_of (unit_over (side_with c k i) p) units_before)
      (first_of (unit_over (side_with d m j) p) units_after)

  -- a path is online before and after, by the paths of both views
  abbrev stays_by : List ℕ → List ℕ → ℕ → Bool
  stays_by ps qs p = (list_any (nat_eq p) ps && is_online c i.css i.name p)
      && (list_any (nat_eq p) qs && is_online d j.css j.name p)

  same_offon : offon (Some (side_with c k i)) (Some (side_with d m j))
      ≡ offon (Some (side_with c l i)) (Some (side_with d n j))
  same_offon = λ x. list_any (λ p. stays_by (paths_alike c i k l before x) (paths_alike d j m n after x) p
      && not (one_route_by (kept x) (same_units k l before x) (same_units m n after x) p))
      (paths_alike c i k l before x)

  same_keeps : keeps_a_path (Some (side_with c k i)) (Some (side_with d m j))
      ≡ keeps_a_path (Some (side_with c l i)) (Some (side_with d n j))
  same_keeps = λ x. list_any (λ p. stays_by (paths_alike c i k l before x) (paths_alike d j m n after x) p
      && one_route_by (kept x) (same_units k l before x) (same_units m n after x) p) (paths_alike c i k l before x)

  same_interrupted : interrupted (Some (side_with c k i)) (Some (side_with d m j))
      ≡ interrupted (Some (side_with c l i)) (Some (side_with d n j))
  same_interrupted = λ x. nat_lt 0 (on_alike c i k l before x) && nat_lt 0 (on_alike d j m n after x)
      && not (same_keeps x)

  same_told : without_number (effect_between (Some (side_with c k i)) (Some (side_with d m j)))
      ≡ without_number (effect_between (Some (side_with c l i)) (Some (side_with d n j)))
  same_told = λ x. record {
    before = seen_alike c i k l before x;
    after = seen_alike d j m n after x;
    interrupted = same_interrupted x;
    offon = same_offon x;
  }

-- ---- an image and devices that are there, or not

abbrev pub side_on : Lookup → Option ImageRecord → Option DeviceRecord → Option Side
side_on c i d = option_and_then (λ e. option_map (side_with c e) i) d

pub by_sides : (P : Option Side → Option Side → Type 0) (c : Lookup) (i : Option ImageRecord)
    (k l : Option DeviceRecord) → option_eq is_seen_alike k l ≡ true → P None None
    → ((r : ImageRecord) (x y : DeviceRecord) → k ≡ Some x → l ≡ Some y → is_seen_alike x y ≡ true
    → P (Some (side_with c x r)) (Some (side_with c y r)))
    → P (side_on c i k) (side_on c i l)
by_sides P c i None None h none some = none
by_sides P c i None (Some y) h none some = absurd (false≢true h)
by_sides P c i (Some x) None h none some = absurd (false≢true h)
by_sides P c None (Some x) (Some y) h none some = none
by_sides P c (Some r) (Some x) (Some y) h none some = some r x y refl refl h

module _ (c d : Lookup) (i j : Option ImageRecord) (k l m n : Option DeviceRecord)
    (before : option_eq is_seen_alike k l ≡ true) (after : option_eq is_seen_alike m n ≡ true)
    (kept : is_kept k m ≡ is_kept l n) where
  abbrev IsToldAlike : Option Side → Option Side → Option Side → Option Side → Type 0
  IsToldAlike b b' a a' = without_number (effect_between b a) ≡ without_number (effect_between b' a')

  -- before there is nobody
  none_before : IsToldAlike None None (side_on d j m) (side_on d j n)
  none_before = by_sides (IsToldAlike None None) d j m n after refl
      (λ r x y mx ny alike. λ z. record {
        before = None;
        after = seen_alike d r x y alike z;
        interrupted = false;
        offon = false;
      })

  -- before there are two that are alike, and after nobody
  none_after : (r : ImageRecord) (x y : DeviceRecord) → is_seen_alike x y ≡ true
      → IsToldAlike (Some (side_with c x r)) (Some (side_with c y r)) None None
  none_after r x y alike = ap without_number (alone_before (side_with c x r))
      ∙ (λ z. record { before = seen_alike c r x y alike z; after = None; interrupted = false; offon = false })
      ∙ sym (ap without_number (alone_before (side_with c y r)))

  some_before : (r : ImageRecord) (x y : DeviceRecord) → k ≡ Some x → l ≡ Some y → is_seen_alike x y ≡ true
      → IsToldAlike (Some (side_with c x r)) (Some (side_with c y r)) (side_on d j m) (side_on d j n)
  some_before r x y kx ly alike =
      by_sides (IsToldAlike (Some (side_with c x r)) (Some (side_with c y r))) d j m n after (none_after r x y alike)
      (λ s u v mu nv like. same_told c d r s x y u v alike like
      (sym (λ z. is_kept (kx z) (mu z)) ∙ kept ∙ (λ z. is_kept (ly z) (nv z))))

  told_of_both : IsToldAlike (side_on c i k) (side_on c i l) (side_on d j m) (side_on d j n)
  told_of_both = by_sides (λ b b'. IsToldAlike b b' (side_on d j m) (side_on d j n)) c i k l before
      none_before some_before

pub one_truth : (a b : Bool) → same_truth a b ≡ true → a ≡ b
one_truth true b h = sym h
one_truth false true h = h
one_truth false false h = refl

pub told_alike : AlikeAreToldAlike
told_alike c d i k l h =
    let p = and_parts (option_eq is_seen_alike (device_in c k) (device_in c l)
    && option_eq is_seen_alike (device_in d k) (device_in d l))
    (same_truth (is_kept (device_in c k) (device_in d k)) (is_kept (device_in c l) (device_in d l))) h in
    let q = and_parts (option_eq is_seen_alike (device_in c k) (device_in c l))
    (option_eq is_seen_alike (device_in d k) (device_in d l)) p.0 in
    told_of_both (lookup_of c) (lookup_of d) (image_record (lookup_of c) i) (image_record (lookup_of d) i)
    (device_in c k) (device_in c l) (device_in d k) (device_in d l) q.0 q.1
    (one_truth (is_kept (device_in c k) (device_in d k)) (is_kept (device_in c l) (device_in d l)) p.1)
