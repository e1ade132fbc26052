-- The devices that are reached, and their places, stand in the order of device numbers.
use Rattle.std.proofs.Common.{◌≡◌, ℕ, ◌<◌, Bool, true, false, cond, ◌&&◌, ◌||◌, ◌⊎◌, inl, inr, nat_eq, eqb-true, eq-eqb}
use Rattle.std.proofs.Common.{List, [], ◌∷◌, ◌++◌, map, T, refl, sym, ap, subst, ◌∙◌}
use Rattle.std.proofs.lemmas.Bool.{and_parts, or_cases, or_right}
use Rattle.std.proofs.lemmas.List.Folds.{list_any-append}
use Rattle.std.specs.List.{filter, filter_map, flat_map, list_any}
use Rattle.std.specs.Ordering.{nat_cmp, is_lt, eq_by_cmp, ordering_then}
use Rattle.std.specs.declared.cmp.Ordering.{Ordering}
use Rattle.std.specs.declared.cmp.Ordering.TheVariants.{Less, Equal, Greater}
use Rattle.std.specs.Cmp.{nat_cmp_total, tied_itself}
use Rattle.std.specs.FinMap.{entries_sorted, is_sorted}
use Rattle.std.specs.FinMap.Entries.{below_all}
use Rattle.iocm_types.specs.declared.key.Key.{Key}
use Rattle.iocm_types.specs.declared.key.Key.TheVariants.{Device}
use Rattle.iocm_types.specs.declared.place.Place.{Place}
use Rattle.iocm_types.specs.Key.{key_cmp}
use Rattle.iocm_types.specs.Place.{place_cmp}
use Rattle.iocm_types.specs.KeyOrder.{places_total, places_exact}
use Rattle.iocm_types.proofs.Found.{same_key, ties_itself}
use Rattle.iocm_types.proofs.Tests.{first_holds, second_holds}
use Rattle.iocm_types.proofs.Entries.{below_rest}
use Rattle.iocm_types.proofs.Parts.{AreDistinct}
use Rattle.iocm_model.specs.Machine.Record.{Rec, DeviceRecord, key_of, id, resource, image, limit, path, unit, device}
use Rattle.iocm_model.specs.Machine.Record.{online}
use Rattle.iocm_model.specs.Machine.Configuration.{Configuration, Lookup, lookup_of, IsKeyed, with_keys, records_of}
use Rattle.iocm_model.specs.Machine.Configuration.{as_device}
use Rattle.iocm_model.specs.Machine.Numbering.{subsystems, sets, is_reached, reached_devices, reached_places}
use Rattle.iocm_model.proofs.Numbers.First.{at, reached_among, counted_by, subsystems_distinct, sets_distinct}
use Rattle.iocm_model.proofs.Numbers.Lowest.{less}

-- ---- device numbers

-- device numbers that rise
abbrev pub Rises : List ℕ → Type 0
Rises [] = Unit {0}
Rises (d ∷ ds) = ((x : ℕ) → list_any (nat_eq x) ds ≡ true → d < x) × Rises ds

level : (q : Ordering) → T (is_lt (ordering_then q Equal)) → T (is_lt q)
level Less h = h
level Equal h = h
level Greater h = h

-- of two keys of one set the smaller has the smaller device number
smaller_device : (s a b : ℕ) → T (is_lt (key_cmp (Device s a) (Device s b))) → a < b
smaller_device s a b h = less a b (level (nat_cmp a b) (rw (tied_itself nat_cmp_total s) at h))

module _ (c : Lookup) (css set : ℕ) where
  here_later : (k d : DeviceRecord) (x : ℕ) (in_reach : Bool) → k.set ≡ set
      → T (is_lt (key_cmp (Device k.set k.number) (Device d.set d.number)))
      → ((nat_eq d.set set && in_reach) && nat_eq x d.number) ≡ true → k.number < x
  here_later k d x in_reach own below h =
      let p = and_parts _ _ h in
      let number : x ≡ d.number = eqb-true x d.number p.1 in
      let same : d.set ≡ k.set = eqb-true d.set set (and_parts _ _ p.0).0 ∙ sym own in
      smaller_device k.set k.number x
      (subst (λ (y : Key). T (is_lt (key_cmp (Device k.set k.number) y))) (λ i. Device (same i) (sym number i))
      below)

  -- a device that is reached among later records has a greater number
  later : (k : DeviceRecord) (rs : List Rec) (x : ℕ) → k.set ≡ set
      → T (below_all key_cmp (Device k.set k.number) (with_keys rs))
      → list_any (nat_eq x) (reached_among c css set rs) ≡ true → k.number < x
  later k [] x own below h = cc
  later k (device d ∷ rs) x own below h =
      by (or_cases _ _ (sym (counted_by c css set x d
      (filter (λ (e : DeviceRecord). nat_eq e.set set && is_reached c css e) (filter_map as_device rs))
      (nat_eq d.set set && is_reached c css d)) ∙ h))
      (later k rs x own (below_rest key_cmp (Device k.set k.number) (key_of (device d), device d) (with_keys rs)
      below))
    where
      by : ((((nat_eq d.set set && is_reached c css d) && nat_eq x d.number) ≡ true)
          ⊎ (list_any (nat_eq x) (reached_among c css set rs) ≡ true))
          → (list_any (nat_eq x) (reached_among c css set rs) ≡ true → k.number < x) → k.number < x
      by (inl e) more = here_later k d x (is_reached c css d) own (first_holds _ _ below) e
      by (inr e) more = more e
  later k (id y ∷ rs) x own below h =
      later k rs x own (below_rest key_cmp (Device k.set k.number) (key_of (id y), id y) (with_keys rs) below) h
  later k (resource y ∷ rs) x own below h =
      later k rs x own (below_rest key_cmp (Device k.set k.number) (key_of (resource y), resource y) (with_keys rs)
      below) h
  later k (image y ∷ rs) x own below h =
      later k rs x own (below_rest key_cmp (Device k.set k.number) (key_of (image y), image y) (with_keys rs) below) h
  later k (limit y ∷ rs) x own below h =
      later k rs x own (below_rest key_cmp (Device k.set k.number) (key_of (limit y), limit y) (with_keys rs) below) h
  later k (path y ∷ rs) x own below h =
      later k rs x own (below_rest key_cmp (Device k.set k.number) (key_of (path y), path y) (with_keys rs) below) h
  later k (unit y ∷ rs) x own below h =
      later k rs x own (below_rest key_cmp (Device k.set k.number) (key_of (unit y), unit y) (with_keys rs) below) h
  later k (online y ∷ rs) x own below h =
      later k rs x own (below_rest key_cmp (Device k.set k.number) (key_of (online y), online y) (with_keys rs) below) h

  rises_by : (d : DeviceRecord) (ds : List DeviceRecord) (b : Bool) → (nat_eq d.set set && is_reached c css d) ≡ b
      → (d.set ≡ set → (x : ℕ) → list_any (nat_eq x) (map (λ (e : DeviceRecord). e.number) ds) ≡ true → d.number < x)
      → Rises (map (λ (e : DeviceRecord). e.number) ds)
      → Rises (map (λ (e : DeviceRecord). e.number) (cond b (d ∷ ds) ds))
  rises_by d ds true e above rest = (above (eqb-true d.set set (and_parts _ _ e).0), rest)
  rises_by d ds false e above rest = rest

  -- the devices of a set that are reached rise
  rises : (rs : List Rec) → T (is_sorted key_cmp (with_keys rs)) → Rises (reached_among c css set rs)
  rises [] up = tt
  rises (device d ∷ rs) up =
      rises_by d (filter (λ (e : DeviceRecord). nat_eq e.set set && is_reached c css e) (filter_map as_device rs))
      (nat_eq d.set set && is_reached c css d) refl
      (λ own x h. later d rs x own (first_holds _ _ up) h) (rises rs (second_holds _ _ up))
  rises (id y ∷ rs) up = rises rs (second_holds _ _ up)
  rises (resource y ∷ rs) up = rises rs (second_holds _ _ up)
  rises (image y ∷ rs) up = rises rs (second_holds _ _ up)
  rises (limit y ∷ rs) up = rises rs (second_holds _ _ up)
  rises (path y ∷ rs) up = rises rs (second_holds _ _ up)
  rises (unit y ∷ rs) up = rises rs (second_holds _ _ up)
  rises (online y ∷ rs) up = rises rs (second_holds _ _ up)

pub reached_rise : (c : Configuration) → IsKeyed c → (css set : ℕ) → Rises (reached_devices c css set)
reached_rise c keyed css set =
    rises (lookup_of c) css set (records_of c)
    (subst (λ (es : List (Key × Rec)). T (is_sorted key_cmp es)) keyed (entries_sorted c))

-- ---- places

-- whether a place is one of some
abbrev pub is_one_of : Place → List Place → Bool
is_one_of p ps = list_any (eq_by_cmp place_cmp p) ps

-- of places of one channel subsystem and set, those behind have greater device numbers
abbrev pub InOrder : List Place → Type 0
InOrder [] = Unit {0}
InOrder (x ∷ xs) = ((p : Place) → is_one_of p xs ≡ true → x.css ≡ p.css → x.set ≡ p.set → x.device < p.device)
    × InOrder xs

-- the places of devices of one channel subsystem and set
abbrev places_at : ℕ → ℕ → List ℕ → List Place
places_at css set ds = map (λ d. at css set d) ds

-- a place of these is of this channel subsystem and set, and its device is one of them
pub record IsAt (css set : ℕ) (ds : List ℕ) (p : Place) : Type 0 where
  pub css_is : p.css ≡ css
  pub set_is : p.set ≡ set
  pub device_is : list_any (nat_eq p.device) ds ≡ true

pub is_at : (css set : ℕ) (ds : List ℕ) (p : Place) → is_one_of p (places_at css set ds) ≡ true → IsAt css set ds p
is_at css set [] p h = cc
is_at css set (d ∷ ds) p h = by (or_cases _ _ h) (is_at css set ds p)
  where
    by : ((eq_by_cmp place_cmp p (at css set d) ≡ true) ⊎ (is_one_of p (places_at css set ds) ≡ true))
        → (is_one_of p (places_at css set ds) ≡ true → IsAt css set ds p) → IsAt css set (d ∷ ds) p
    by (inl e) more = let same : p ≡ at css set d = same_key place_cmp places_exact p (at css set d) e in record {
      css_is = ap (λ (q : Place). q.css) same;
      set_is = ap (λ (q : Place). q.set) same;
      device_is = ap (λ b. b || list_any (nat_eq p.device) ds) (eq-eqb p.device d (ap (λ (q : Place). q.device) same));
    }
    by (inr e) more = let rest = more e in record {
      css_is = rest.css_is;
      set_is = rest.set_is;
      device_is = or_right (nat_eq p.device d) _ rest.device_is;
    }

set_in_order : (css set : ℕ) (ds : List ℕ) → Rises ds → InOrder (places_at css set ds)
set_in_order css set [] rise = tt
set_in_order css set (d ∷ ds) rise = (
  (λ p among c s. rise.0 p.device (is_at css set ds p among).device_is),
  set_in_order css set ds rise.1,
)

-- places in parts of which each has a number of its own
module _ (tag : Place → ℕ) (same_tag : (p q : Place) → p.css ≡ q.css → p.set ≡ q.set → tag p ≡ tag q)
    (part : ℕ → List Place)
    (own : (i : ℕ) (p : Place) → is_one_of p (part i) ≡ true → tag p ≡ i) where
  tag_there : (is : List ℕ) (p : Place) → is_one_of p (flat_map part is) ≡ true → list_any (nat_eq (tag p)) is ≡ true
  tag_there [] p h = cc
  tag_there (i ∷ is) p h =
      by (or_cases _ _ (sym (list_any-append (eq_by_cmp place_cmp p) (part i) (flat_map part is)) ∙ h)) (tag_there is p)
    where
      by : ((is_one_of p (part i) ≡ true) ⊎ (is_one_of p (flat_map part is) ≡ true))
          → (is_one_of p (flat_map part is) ≡ true → list_any (nat_eq (tag p)) is ≡ true)
          → (nat_eq (tag p) i || list_any (nat_eq (tag p)) is) ≡ true
      by (inl e) more = ap (λ b. b || list_any (nat_eq (tag p)) is) (eq-eqb (tag p) i (own i p e))
      by (inr e) more = or_right (nat_eq (tag p) i) _ (more e)

  -- a part before others of other numbers
  before_others : (i : ℕ) (is : List ℕ) → list_any (nat_eq i) is ≡ false → (xs : List Place)
      → ((x : Place) → is_one_of x xs ≡ true → tag x ≡ i)
      → InOrder xs → InOrder (flat_map part is) → InOrder (xs ++ flat_map part is)
  before_others i is apart [] mine order rest = rest
  before_others i is apart (x ∷ xs) mine order rest = (
    (λ p among css set. by p css set
        (or_cases _ _ (sym (list_any-append (eq_by_cmp place_cmp p) xs (flat_map part is)) ∙ among))),
    before_others i is apart xs (λ y e. mine y (or_right (eq_by_cmp place_cmp y x) _ e)) order.1 rest,
  )
    where
      by : (p : Place) → x.css ≡ p.css → x.set ≡ p.set
          → ((is_one_of p xs ≡ true) ⊎ (is_one_of p (flat_map part is) ≡ true)) → x.device < p.device
      by p css set (inl e) = order.0 p e css set
      by p css set (inr e) =
          let first : tag x ≡ i = mine x (ap (λ b. b || is_one_of x xs) (ties_itself place_cmp places_total x)) in
          let there : list_any (nat_eq i) is ≡ true =
          ap (λ t. list_any (nat_eq t) is) (sym (sym (same_tag x p css set) ∙ first)) ∙ tag_there is p e in cc

  parts_in_order : ((i : ℕ) → InOrder (part i)) → (is : List ℕ) → AreDistinct is → InOrder (flat_map part is)
  parts_in_order order [] distinct = tt
  parts_in_order order (i ∷ is) distinct =
      before_others i is distinct.0 (part i) (own i) (order i) (parts_in_order order is distinct.1)

-- what holds of each place of each part holds of all
pub of_parts : (P : Place → Type 0) (part : ℕ → List Place) → ((i : ℕ) (p : Place) → is_one_of p (part i) ≡ true → P p)
    → (is : List ℕ) (p : Place) → is_one_of p (flat_map part is) ≡ true → P p
of_parts P part each [] p h = cc
of_parts P part each (i ∷ is) p h =
    by (or_cases _ _ (sym (list_any-append (eq_by_cmp place_cmp p) (part i) (flat_map part is)) ∙ h))
    (of_parts P part each is p)
  where
    by : ((is_one_of p (part i) ≡ true) ⊎ (is_one_of p (flat_map part is) ≡ true))
        → (is_one_of p (flat_map part is) ≡ true → P p) → P p
    by (inl e) more = each i p e
    by (inr e) more = more e

-- the places of all devices that are reached stand in order
pub reached_in_order : (c : Configuration) → IsKeyed c → InOrder (reached_places c)
reached_in_order c keyed =
    parts_in_order (λ p. p.css) (λ p q css set. css)
    (λ css. flat_map (λ set. places_at css set (reached_devices c css set)) sets)
    (λ css. of_parts (λ p. p.css ≡ css) (λ set. places_at css set (reached_devices c css set))
    (λ set p h. (is_at css set (reached_devices c css set) p h).css_is) sets)
    (λ css. parts_in_order (λ p. p.set) (λ p q css set. set) (λ set. places_at css set (reached_devices c css set))
    (λ set p h. (is_at css set (reached_devices c css set) p h).set_is)
    (λ set. set_in_order css set (reached_devices c css set) (reached_rise c keyed css set)) sets sets_distinct)
    subsystems subsystems_distinct
