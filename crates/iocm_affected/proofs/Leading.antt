-- What is led to is listed: the places of a device are among those to which the device leads, each
-- unit of it, each path of its path list, and each name of an image that reaches one of these.
use Rattle.std.proofs.Common.{◌≡◌, ℕ, Bool, true, false, cond, ◌&&◌, nat_eq, eqb-true, List, [], ◌∷◌, Some, None, refl}
use Rattle.std.proofs.Common.{sym, ap, ◌∙◌}
use Rattle.std.specs.List.{list_any, flat_map}
use Rattle.std.specs.Ordering.{eq_by_cmp}
use Rattle.iocm_types.specs.declared.key.Key.{Key}
use Rattle.iocm_types.specs.declared.key.Key.TheVariants as key
use Rattle.iocm_types.specs.declared.named.Named.{Named}
use Rattle.iocm_types.specs.declared.named.Named.TheVariants as thing
use Rattle.iocm_types.specs.declared.naming.Naming.{Naming}
use Rattle.iocm_types.specs.declared.place.Place.{Place}
use Rattle.iocm_types.specs.KeyOrder.{places_total}
use Rattle.iocm_types.specs.Key.{key_cmp}
use Rattle.iocm_types.specs.Naming.{naming_cmp}
use Rattle.iocm_types.specs.Place.{place_cmp}
use Rattle.iocm_types.proofs.Found.{ties_itself}
use Rattle.iocm_table.specs.Slots.{Stored, rows}
use Rattle.iocm_model.specs.Machine.Record.{DeviceRecord, device}
use Rattle.iocm_model.specs.Machine.Configuration.{Configuration, lookup_of}
use Rattle.iocm_model.specs.Machine.PathList.{unit_paths, path_list}
use Rattle.iocm_model.specs.Machine.Sight.{reaches, is_candidate}
use Rattle.iocm_model.specs.Machine.View.{view_of, view_if_seen}
use Rattle.iocm_index.specs.Namings.{naming}
use Rattle.iocm_index.proofs.Members.{users_name_it}
use Rattle.iocm_lookup.specs.Indexed.{names, IsIndexOf}
use Rattle.iocm_lookup.proofs.Anys.{any_weaker}
use Rattle.iocm_lookup.proofs.Members.{key_there}
use Rattle.iocm_affected.specs.Listing.{users_of, places_of, places_of_unit, places_on_unit, places_on_units}
use Rattle.iocm_affected.specs.Listing.{places_of_path, users_on_path, users_of_name, places_of_name}
use Rattle.iocm_affected.proofs.Agreement.{IsIn, own_number, in_front}
use Rattle.iocm_affected.proofs.Chains.{any_map, any_of_parts, any_number, device_names, unit_names, path_names}

-- a place is among these
abbrev pub IsAmong : Place → List Place → Type 0
IsAmong p ps = list_any (eq_by_cmp place_cmp p) ps ≡ true

-- the place of a device in a channel subsystem is among those of the device in some
pub device_led : (p : Place) (within : List ℕ) → IsIn p.css within
    → IsAmong p (places_of within (key.Device p.set p.device))
device_led p within here =
    let at : ℕ → Place = λ css. record { css = css; set = p.set; device = p.device } in
    any_map (eq_by_cmp place_cmp p) at within
    ∙ any_weaker (nat_eq p.css) (λ css. eq_by_cmp place_cmp p (at css))
    (λ css e. ap (λ k. eq_by_cmp place_cmp p (at k)) (sym (eqb-true p.css css e))
    ∙ ties_itself place_cmp places_total p) within here

module _ (c : Configuration) (t : Stored Naming (Unit {0})) (of : IsIndexOf c t) where
  -- what a record that names a thing leads to, the thing leads to
  led_on : {A : Type 0} (test : A → Bool) (named : Named) (user : Key) (part : Key → List A)
      → names named (lookup_of c user) ≡ true → list_any test (part user) ≡ true
      → list_any test (flat_map part (users_of t named)) ≡ true
  led_on test named user part does listed = any_of_parts test part (users_of t named)
      ∙ key_there (λ k. list_any test (part k)) (users_of t named) user
      (users_name_it named (rows naming_cmp t) user ∙ of (naming user named) ∙ does) listed

  module _ (p : Place) (r : DeviceRecord) (there : lookup_of c (key.Device p.set p.device) ≡ Some (device r)) where
    -- each unit of the device leads to it
    pub unit_led : (within : List ℕ) → IsIn p.css within → (u : ℕ) → IsIn u r.units
        → IsAmong p (places_of_unit t within (key.Unit u))
    unit_led within here u h = led_on (eq_by_cmp place_cmp p) (thing.Record (key.Unit u)) (key.Device p.set p.device)
        (places_of within)
        (ap (names (thing.Record (key.Unit u))) there ∙ device_names r u h) (device_led p within here)

    -- so does each list of keys in which a path of its path list is named
    by_unit : (n : ℕ) → IsIn n (path_list (lookup_of c) p.css r.units) → (keys : List Key)
        → ((u : ℕ) → names (thing.Record (key.Path p.css n)) (lookup_of c (key.Unit u)) ≡ true
        → list_any (eq_by_cmp key_cmp (key.Unit u)) keys ≡ true)
        → IsAmong p (places_on_units t p.css keys)
    by_unit n h keys has = any_number (λ u. list_any (nat_eq n) (unit_paths (lookup_of c) p.css u)) r.units
        (sym (any_of_parts (nat_eq n) (unit_paths (lookup_of c) p.css) r.units) ∙ h)
        (λ u among does. any_of_parts (eq_by_cmp place_cmp p) (places_on_unit t (p.css ∷ [])) keys
        ∙ key_there (λ k. list_any (eq_by_cmp place_cmp p) (places_on_unit t (p.css ∷ []) k)) keys (key.Unit u)
        (has u (unit_names p.css n (lookup_of c (key.Unit u)) does))
        (unit_led (p.css ∷ []) (in_front p.css []) u among))

    -- a user of a path is among its users
    is_user : (n u : ℕ) → names (thing.Record (key.Path p.css n)) (lookup_of c (key.Unit u)) ≡ true
        → list_any (eq_by_cmp key_cmp (key.Unit u)) (users_of t (thing.Record (key.Path p.css n))) ≡ true
    is_user n u does = users_name_it (thing.Record (key.Path p.css n)) (rows naming_cmp t) (key.Unit u)
        ∙ of (naming (key.Unit u) (thing.Record (key.Path p.css n))) ∙ does

    -- each path of its path list leads to the device
    pub path_led : (n : ℕ) → IsIn n (path_list (lookup_of c) p.css r.units)
        → IsAmong p (places_of_path t p.css (key.Path p.css n))
    path_led n h = by_unit n h (users_of t (thing.Record (key.Path p.css n))) (is_user n)

    -- and so does the name of each image that reaches one of these
    pub name_led : (name : List ℕ)
        → list_any (reaches (lookup_of c) p.css name) (path_list (lookup_of c) p.css r.units) ≡ true
        → IsAmong p (places_of_name t p.css name)
    name_led name h = any_number (reaches (lookup_of c) p.css name) (path_list (lookup_of c) p.css r.units) h
        (λ n among does. by_unit n among (users_of_name t p.css name) (λ u user.
        led_on (eq_by_cmp key_cmp (key.Unit u)) (thing.Image name) (key.Path p.css n) (users_on_path t p.css)
        (path_names name (lookup_of c (key.Path p.css n)) does)
        (ap (λ b. list_any (eq_by_cmp key_cmp (key.Unit u)) (cond b (users_of t (thing.Record (key.Path p.css n))) []))
        (own_number p.css) ∙ is_user n u user)))

    -- so an image whose name doesn't lead to the device doesn't see it
    pub not_seen : (name : List ℕ) → (IsAmong p (places_of_name t p.css name) → ⊥)
        → view_if_seen (lookup_of c) p.css name r ≡ None
    not_seen name out = by (is_candidate name r.candidates)
        (list_any (reaches (lookup_of c) p.css name) (path_list (lookup_of c) p.css r.units)) refl
      where
        by : (a b : Bool) → list_any (reaches (lookup_of c) p.css name) (path_list (lookup_of c) p.css r.units) ≡ b
            → cond (a && b) (Some (view_of (lookup_of c) p.css name r)) None ≡ None
        by true true is = absurd (out (name_led name is))
        by true false is = refl
        by false b is = refl
