-- The devices of a set are those that are found under their keys, and a place that is reached is of
-- one of them.
use Rattle.std.proofs.Common.{◌≡◌, ℕ, nat_eq, Bool, true, false, cond, ◌&&◌, ◌||◌, List, [], ◌∷◌, map, Option, Some}
use Rattle.std.proofs.Common.{is_some, refl, sym, ap, ◌∙◌}
use Rattle.std.specs.List.{filter_map, flat_map, list_any}
use Rattle.std.specs.Ordering.{nat_cmp, is_eq, eq_by_cmp, ordering_then}
use Rattle.std.specs.declared.cmp.Ordering.{Ordering}
use Rattle.std.specs.declared.cmp.Ordering.TheVariants.{Less, Equal, Greater}
use Rattle.std.specs.Cmp.{unsigned_ties, both_tied, nat_eq_equiv}
use Rattle.std.specs.FinMap.{find, get, get-entries}
use Rattle.iocm_types.specs.declared.key.Key.TheVariants.{Device}
use Rattle.iocm_types.specs.declared.place.Place.{Place}
use Rattle.iocm_types.specs.Key.{key_cmp}
use Rattle.iocm_model.specs.Machine.Record.{Rec, DeviceRecord, id, resource, image, limit, path, unit, device, online}
use Rattle.iocm_model.specs.Machine.Configuration.{Configuration, IsKeyed, lookup_of, devices_of, records_of, with_keys}
use Rattle.iocm_model.specs.Machine.Configuration.{as_device}
use Rattle.iocm_model.specs.Machine.Numbering.{subsystems, sets, is_reached, reached_devices, is_reached_at}
use Rattle.iocm_model.proofs.Numbers.Apart.{any_kept}
use Rattle.iocm_model.proofs.Numbers.InOrder.{is_at, of_parts}
use Rattle.iocm_difference_laws.specs.Room.{devices_in}

-- ---- under its key

level : (q : Ordering) → is_eq (ordering_then q Equal) ≡ is_eq q
level Less = refl
level Equal = refl
level Greater = refl

-- the key of a device is that of a set and a number where both are these
same_device : (set x : ℕ) (d : DeviceRecord)
    → eq_by_cmp key_cmp (Device set x) (Device d.set d.number) ≡ (nat_eq d.set set && nat_eq x d.number)
same_device set x d =
    sym (both_tied (nat_eq set d.set) (nat_eq x d.number) (nat_cmp set d.set) (ordering_then (nat_cmp x d.number) Equal)
    (unsigned_ties set d.set)
    (unsigned_ties x d.number ∙ sym (level (nat_cmp x d.number))))
    ∙ ap (λ t. t && nat_eq x d.number) (nat_eq_equiv.symm set d.set)

there_by : (b : Bool) (r : Rec) (rest : Option Rec) (others : Bool) → is_some rest ≡ others
    → is_some (cond b (Some r) rest) ≡ (b || others)
there_by true r rest others is = refl
there_by false r rest others is = is

-- of records, by the devices among them
listed : (set x : ℕ) (rs : List Rec)
    → is_some (find key_cmp (Device set x) (with_keys rs))
    ≡ list_any (λ (d : DeviceRecord). nat_eq d.set set && nat_eq x d.number) (filter_map as_device rs)
listed set x [] = refl
listed set x (device d ∷ rs) =
    ap (λ b. is_some (cond b (Some (device d)) (find key_cmp (Device set x) (with_keys rs)))) (same_device set x d)
    ∙ there_by (nat_eq d.set set && nat_eq x d.number) (device d) (find key_cmp (Device set x) (with_keys rs)) _
    (listed set x rs)
listed set x (id y ∷ rs) = listed set x rs
listed set x (resource y ∷ rs) = listed set x rs
listed set x (image y ∷ rs) = listed set x rs
listed set x (limit y ∷ rs) = listed set x rs
listed set x (path y ∷ rs) = listed set x rs
listed set x (unit y ∷ rs) = listed set x rs
listed set x (online y ∷ rs) = listed set x rs

-- a number is one of the devices of a set where something is under its key
pub in_devices : (c : Configuration) → IsKeyed c → (set x : ℕ)
    → is_some (get c (Device set x)) ≡ list_any (nat_eq x) (devices_in c set)
in_devices c keyed set x =
    ap is_some (get-entries c (Device set x) ∙ ap (find key_cmp (Device set x)) keyed)
    ∙ listed set x (records_of c)
    ∙ sym (any_kept (nat_eq x) (λ (d : DeviceRecord). d.number) (λ (d : DeviceRecord). nat_eq d.set set) (devices_of c))

-- ---- places

wider_by : (a b e : Bool) (rest more : Bool) → (rest ≡ true → more ≡ true) → (((a && b) && e) || rest) ≡ true
    → ((a && e) || more) ≡ true
wider_by true true true rest more on h = refl
wider_by true true false rest more on h = on h
wider_by true false true rest more on h = refl
wider_by true false false rest more on h = on h
wider_by false b e rest more on h = on h

wider : (keep reach : DeviceRecord → Bool) (x : ℕ) (ds : List DeviceRecord)
    → list_any (λ (d : DeviceRecord). (keep d && reach d) && nat_eq x d.number) ds ≡ true
    → list_any (λ (d : DeviceRecord). keep d && nat_eq x d.number) ds ≡ true
wider keep reach x [] h = cc
wider keep reach x (d ∷ ds) h = wider_by (keep d) (reach d) (nat_eq x d.number) _ _ (wider keep reach x ds) h

-- a device that is reached is one of its set
reached_in : (c : Configuration) (css set x : ℕ) → list_any (nat_eq x) (reached_devices c css set) ≡ true
    → list_any (nat_eq x) (devices_in c set) ≡ true
reached_in c css set x h =
    any_kept (nat_eq x) (λ (d : DeviceRecord). d.number) (λ (d : DeviceRecord). nat_eq d.set set) (devices_of c)
    ∙ wider (λ (d : DeviceRecord). nat_eq d.set set) (is_reached (lookup_of c) css) x (devices_of c)
    (sym (any_kept (nat_eq x) (λ (d : DeviceRecord). d.number)
    (λ (d : DeviceRecord). nat_eq d.set set && is_reached (lookup_of c) css d) (devices_of c)) ∙ h)

-- so is the device of a place that is reached
pub reached_place_in : (c : Configuration) (p : Place) → is_reached_at c p ≡ true
    → list_any (nat_eq p.device) (devices_in c p.set) ≡ true
reached_place_in c p h =
    of_parts (λ q. list_any (nat_eq q.device) (devices_in c q.set) ≡ true)
    (λ css. flat_map (λ set. map (λ d. record { css = css; set = set; device = d }) (reached_devices c css set))
    sets)
    (λ css. of_parts (λ q. list_any (nat_eq q.device) (devices_in c q.set) ≡ true)
    (λ set. map (λ d. record { css = css; set = set; device = d }) (reached_devices c css set))
    (λ set q among. let at = is_at css set (reached_devices c css set) q among in
    ap (λ s. list_any (nat_eq q.device) (devices_in c s)) at.set_is ∙ reached_in c css set q.device at.device_is) sets)
    subsystems p h
