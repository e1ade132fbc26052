-- The rows of numbers at opening are those of the devices that are reached; no two of them have one
-- place, and no two devices of a set one number.
use Rattle.std.proofs.Common.{◌≡◌, ℕ, suc, zero, ◌+◌, ◌<◌, ◌≤◌, Bool, true, false, cond, ◌&&◌, ◌||◌, nat_eq, List, []}
use Rattle.std.proofs.Common.{◌∷◌, ◌++◌, map, Some, slice_index_or, refl, sym, ap, subst, ◌∙◌, arith, eq-eqb}
use Rattle.std.proofs.lemmas.Bool.{or_right}
use Rattle.std.specs.List.{filter, flat_map, list_any, IsDistinct, AllByRecursion}
use Rattle.std.specs.Map.{keys_of}
use Rattle.std.specs.Ordering.{eq_by_cmp}
use Rattle.std.specs.FinMap.{get, from_entries}
use Rattle.iocm_types.specs.declared.place.Place.{Place}
use Rattle.iocm_types.specs.Place.{place_cmp}
use Rattle.iocm_types.specs.KeyOrder.{places_total, places_exact}
use Rattle.iocm_types.proofs.Found.{ties_itself}
use Rattle.iocm_types.proofs.Parts.{untied}
use Rattle.iocm_model.specs.Machine.Record.{DeviceRecord}
use Rattle.iocm_model.specs.Machine.Configuration.{Configuration, Lookup, lookup_of, IsKeyed, devices_of}
use Rattle.iocm_model.specs.Machine.Numbering.{subsystems, sets, is_reached, reached_devices, reached_places}
use Rattle.iocm_model.specs.Machine.Numbering.{numbers_from}
use Rattle.iocm_model.proofs.Numbers.First.{opening_apart}
use Rattle.iocm_model.proofs.Numbers.InOrder.{Rises, InOrder, is_one_of, reached_rise, reached_in_order}
use Rattle.iocm_model.proofs.Numbers.Opening.{places_at_opening}
use Rattle.iocm_numbers.specs.declared.device_reach.DeviceReach.{DeviceReach}
use Rattle.iocm_numbers.specs.Opening.{reach_of, numbered, rows_of, rows_at_opening, RiseFrom}

-- ---- the devices that are numbered

-- what is said of each channel subsystem is found at its number
said_of : (f : ℕ → Bool) (css : ℕ) → css < 6 → slice_index_or (map f subsystems) css false ≡ f css
said_of f zero h = refl
said_of f (suc zero) h = refl
said_of f (suc (suc zero)) h = refl
said_of f (suc (suc (suc zero))) h = refl
said_of f (suc (suc (suc (suc zero)))) h = refl
said_of f (suc (suc (suc (suc (suc zero))))) h = refl
said_of f (suc (suc (suc (suc (suc (suc css)))))) h = absurd (omega arith)

module _ (c : Lookup) (css set : ℕ) where
  -- whether a device is of the set and reached
  abbrev wanted : DeviceRecord → Bool
  wanted d = nat_eq d.set set && is_reached c css d

  numbered_by : (b : Bool) (d : DeviceRecord) (ds : List DeviceReach) (es : List DeviceRecord)
      → map (λ (e : DeviceReach). e.number) ds ≡ map (λ (e : DeviceRecord). e.number) es
      → map (λ (e : DeviceReach). e.number) (cond b (reach_of c d ∷ ds) ds)
      ≡ map (λ (e : DeviceRecord). e.number) (cond b (d ∷ es) es)
  numbered_by true d ds es is = ap (λ ns. d.number ∷ ns) is
  numbered_by false d ds es is = is

  -- the devices that are numbered are those of the set that are reached
  pub numbered_is : css < 6 → (ds : List DeviceRecord)
      → numbered css set (map (reach_of c) ds) ≡ map (λ (d : DeviceRecord). d.number) (filter wanted ds)
  numbered_is low [] = refl
  numbered_is low (d ∷ ds) =
      ap (λ b. map (λ (e : DeviceReach). e.number)
      (cond (nat_eq d.set set && b)
      (reach_of c d ∷ filter (λ (e : DeviceReach). nat_eq e.set set && slice_index_or e.reached css false)
      (map (reach_of c) ds))
      (filter (λ (e : DeviceReach). nat_eq e.set set && slice_index_or e.reached css false) (map (reach_of c) ds))))
      (said_of (λ k. is_reached c k d) css low)
      ∙ numbered_by (wanted d) d _ (filter wanted ds) (numbered_is low ds)

-- device numbers that rise, each of them no lower than one number, rise from that on
rise_from : (n : ℕ) (ds : List ℕ) → ((x : ℕ) → list_any (nat_eq x) ds ≡ true → n ≤ x) → Rises ds → RiseFrom n ds
rise_from n [] above rise = tt
rise_from n (d ∷ ds) above rise = (
  above d (ap (λ b. b || list_any (nat_eq d) ds) (eq-eqb d d refl)),
  rise_from (d + 1) ds (λ x h. let more = rise.0 x h in omega arith) rise.1,
)

module _ (c : Configuration) where
  -- the devices of a configuration, as they are numbered
  abbrev pub gathered : List DeviceReach
  gathered = map (reach_of (lookup_of c)) (devices_of c)

  -- those of a set that are numbered rise
  pub gathered_rise : IsKeyed c → (css set : ℕ) → css < 6 → RiseFrom 0 (numbered css set gathered)
  gathered_rise keyed css set low =
      subst (RiseFrom 0) (sym (numbered_is (lookup_of c) css set low (devices_of c)))
      (rise_from 0 (reached_devices c css set) (λ x h. omega arith) (reached_rise c keyed css set))

  -- the rows of a channel subsystem at opening
  abbrev pub rows_in : ℕ → List (Place × ℕ)
  rows_in css = flat_map (λ set. numbers_from css set 0 (reached_devices c css set)) sets

  -- they are those of its devices that are numbered
  rows_in_is : (css : ℕ) → css < 6 → rows_of css gathered ≡ rows_in css
  rows_in_is css low = λ i.
      flat_map (λ set. numbers_from css set 0 (numbered_is (lookup_of c) css set low (devices_of c) i)) sets

  -- so are those of all channel subsystems
  pub all_rows : flat_map (λ css. rows_of css gathered) subsystems ≡ rows_at_opening c
  all_rows = λ i. rows_in_is 0 (omega arith) i ++ (rows_in_is 1 (omega arith) i ++ (rows_in_is 2 (omega arith) i
      ++ (rows_in_is 3 (omega arith) i ++ (rows_in_is 4 (omega arith) i ++ (rows_in_is 5 (omega arith) i ++ [])))))

-- ---- their places

-- a test that fails at each place of a list fails at all
all_apart : (p : Place) (ps : List Place) → ((q : Place) → is_one_of q ps ≡ true → eq_by_cmp place_cmp p q ≡ false)
    → AllByRecursion (λ q. eq_by_cmp place_cmp p q ≡ false) ps
all_apart p [] apart = tt
all_apart p (q ∷ qs) apart = (
  apart q (ap (λ b. b || is_one_of q qs) (ties_itself place_cmp places_total q)),
  all_apart p qs (λ r h. apart r (or_right (eq_by_cmp place_cmp r q) _ h)),
)

-- places in order are distinct
distinct_in_order : (ps : List Place) → InOrder ps → IsDistinct (eq_by_cmp place_cmp) ps
unfolding IsDistinct
distinct_in_order [] order = tt
distinct_in_order (p ∷ ps) order = (
  all_apart p ps (λ q among. untied place_cmp places_exact p q
      (λ same. let above = order.0 q among (ap (λ (r : Place). r.css) same) (ap (λ (r : Place). r.set) same) in
      let level = ap (λ (r : Place). r.device) same in omega arith)),
  distinct_in_order ps order.1,
)

-- no two rows at opening have one place
pub places_distinct : (c : Configuration) → IsKeyed c → IsDistinct (eq_by_cmp place_cmp) (keys_of (rows_at_opening c))
places_distinct c keyed =
    subst (IsDistinct (eq_by_cmp place_cmp)) (sym (places_at_opening c))
    (distinct_in_order (reached_places c) (reached_in_order c keyed))

-- no number comes twice in one channel subsystem and set
pub numbers_apart : (c : Configuration) (p q : Place) (number : ℕ) → p.css ≡ q.css → p.set ≡ q.set
    → get (from_entries {R = place_cmp} (rows_at_opening c)) p ≡ Some number
    → get (from_entries {R = place_cmp} (rows_at_opening c)) q ≡ Some number → p ≡ q
numbers_apart = opening_apart
