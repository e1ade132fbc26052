-- The numbers at opening: each device that is reached has one, and no two of a set have the same.
use Rattle.std.proofs.Common.{◌≡◌, ℕ, suc, zero, ◌+◌, ◌<◌, ◌≤◌, Bool, true, false, cond, ◌&&◌, ◌||◌, nat_eq, eqb-true}
use Rattle.std.proofs.Common.{List, [], ◌∷◌, map, Option, Some, None, is_some, T, refl, sym, ap, subst, ◌∙◌, arith}
use Rattle.std.specs.List.{filter, filter_map, flat_map, list_any}
use Rattle.std.specs.Ordering.{nat_cmp, is_eq, eq_by_cmp, ordering_then}
use Rattle.std.specs.declared.cmp.Ordering.{Ordering}
use Rattle.std.specs.declared.cmp.Ordering.TheVariants.{Less, Equal, Greater}
use Rattle.std.specs.Cmp.{nat_cmp_total, tied_itself, unsigned_tied, unsigned_ties, both_tied, first_so, second_so}
use Rattle.std.specs.Cmp.{nat_eq_equiv}
use Rattle.std.specs.FinMap.{find, get, entries_sorted, is_sorted, get-from_entries, get-entries}
use Rattle.std.specs.FinMap.Entries.{below_all}
use Rattle.iocm_types.specs.declared.key.Key.{Key}
use Rattle.iocm_types.specs.declared.key.Key.TheVariants.{Device}
use Rattle.iocm_types.specs.declared.place.Place.{Place}
use Rattle.iocm_types.specs.Key.{key_cmp}
use Rattle.iocm_types.specs.Place.{place_cmp}
use Rattle.iocm_types.specs.KeyOrder.{places_total, places_exact}
use Rattle.iocm_types.proofs.Parts.{untied, find_nowhere, find_part, found_in_part, AreDistinct}
use Rattle.iocm_types.proofs.Tests.{first_holds, second_holds}
use Rattle.iocm_types.proofs.Entries.{not_found}
use Rattle.iocm_model.specs.Machine.Record.{Rec, DeviceRecord, id, resource, image, limit, path, unit, device, online}
use Rattle.iocm_model.specs.Machine.Configuration.{Configuration, Lookup, lookup_of, IsKeyed, with_keys, records_of}
use Rattle.iocm_model.specs.Machine.Configuration.{as_device}
use Rattle.iocm_model.specs.Machine.Numbering.{is_reached, is_record_reached, reached_devices, numbers_from, opening}
use Rattle.iocm_model.specs.Machine.Numbering.{subsystems, sets}

-- ---- one set of a channel subsystem

abbrev pub at : ℕ → ℕ → ℕ → Place
at css set number = record { css = css; set = set; device = number }

other_css : (p : Place) (css set n : ℕ) (ds : List ℕ) → (css ≡ p.css → ⊥)
    → find place_cmp p (numbers_from css set n ds) ≡ None
other_css p css set n [] other = refl
other_css p css set n (d ∷ ds) other =
    let apart : eq_by_cmp place_cmp p (at css set d) ≡ false =
    untied place_cmp places_exact p (at css set d) (λ e. other (sym (ap (λ (q : Place). q.css) e))) in
    rw apart (other_css p css set (n + 1) ds other)

other_set : (p : Place) (css set n : ℕ) (ds : List ℕ) → (set ≡ p.set → ⊥)
    → find place_cmp p (numbers_from css set n ds) ≡ None
other_set p css set n [] other = refl
other_set p css set n (d ∷ ds) other =
    let apart : eq_by_cmp place_cmp p (at css set d) ≡ false =
    untied place_cmp places_exact p (at css set d) (λ e. other (sym (ap (λ (q : Place). q.set) e))) in
    rw apart (other_set p css set (n + 1) ds other)

ties_by_device : (r q t : Ordering) → r ≡ Equal → q ≡ Equal → is_eq (ordering_then r (ordering_then q t)) ≡ is_eq t
ties_by_device Less q t a b = cc
ties_by_device Equal Less t a b = cc
ties_by_device Equal Equal t a b = refl
ties_by_device Equal Greater t a b = cc
ties_by_device Greater q t a b = cc

pub same_place : (css set x y : ℕ) → eq_by_cmp place_cmp (at css set x) (at css set y) ≡ nat_eq x y
same_place css set x y =
    ties_by_device (nat_cmp css css) (nat_cmp set set) (nat_cmp x y) (tied_itself nat_cmp_total css)
    (tied_itself nat_cmp_total set) ∙ unsigned_tied x y

numbered_by : (b : Bool) (n : ℕ) (rest : Option ℕ) (others : Bool) → is_some rest ≡ others
    → is_some (cond b (Some n) rest) ≡ (b || others)
numbered_by true n rest others is = refl
numbered_by false n rest others is = is

-- a device has a number if it is in the list
pub in_set : (css set n x : ℕ) (ds : List ℕ)
    → is_some (find place_cmp (at css set x) (numbers_from css set n ds)) ≡ list_any (nat_eq x) ds
in_set css set n x [] = refl
in_set css set n x (d ∷ ds) =
    ap (λ b. is_some (cond b (Some n) (find place_cmp (at css set x) (numbers_from css set (n + 1) ds))))
    (same_place css set x d)
    ∙ numbered_by (nat_eq x d) n _ _ (in_set css set (n + 1) x ds)

no_lower_by : (b : Bool) (n k : ℕ) (rest : Option ℕ) → (rest ≡ Some k → n + 1 ≤ k) → cond b (Some n) rest ≡ Some k
    → n ≤ k
no_lower_by true n k rest more is = let same : n ≡ k = cc in omega arith
no_lower_by false n k rest more is = let above = more is in omega arith

pub no_lower : (css set n x k : ℕ) (ds : List ℕ) → find place_cmp (at css set x) (numbers_from css set n ds) ≡ Some k
    → n ≤ k
no_lower css set n x k [] is = cc
no_lower css set n x k (d ∷ ds) is =
    no_lower_by (eq_by_cmp place_cmp (at css set x) (at css set d)) n k _ (no_lower css set (n + 1) x k ds) is

one_number_by : (a b : Bool) (n k x y d : ℕ) (r s : Option ℕ) → nat_eq x d ≡ a → nat_eq y d ≡ b
    → (r ≡ Some k → n + 1 ≤ k) → (s ≡ Some k → n + 1 ≤ k)
    → (r ≡ Some k → s ≡ Some k → x ≡ y) → cond a (Some n) r ≡ Some k → cond b (Some n) s ≡ Some k → x ≡ y
one_number_by true true n k x y d r s e f low high more is was = eqb-true x d e ∙ sym (eqb-true y d f)
one_number_by true false n k x y d r s e f low high more is was = let same : n ≡ k = cc in let above = high was in
    absurd (omega arith)
one_number_by false true n k x y d r s e f low high more is was = let same : n ≡ k = cc in let above = low is in
    absurd (omega arith)
one_number_by false false n k x y d r s e f low high more is was = more is was

-- a number is one device's
one_number : (css set n x y k : ℕ) (ds : List ℕ) → find place_cmp (at css set x) (numbers_from css set n ds) ≡ Some k
    → find place_cmp (at css set y) (numbers_from css set n ds) ≡ Some k → x ≡ y
one_number css set n x y k [] is was = cc
one_number css set n x y k (d ∷ ds) is was =
    one_number_by (nat_eq x d) (nat_eq y d) n k x y d _ _ refl refl (no_lower css set (n + 1) x k ds)
    (no_lower css set (n + 1) y k ds)
    (one_number css set (n + 1) x y k ds)
    (sym (ap (λ b. cond b (Some n) (find place_cmp (at css set x) (numbers_from css set (n + 1) ds)))
    (same_place css set x d)) ∙ is)
    (sym (ap (λ b. cond b (Some n) (find place_cmp (at css set y) (numbers_from css set (n + 1) ds)))
    (same_place css set y d)) ∙ was)

-- ---- all sets of all channel subsystems

abbrev pub of_set : Configuration → ℕ → ℕ → List (Place × ℕ)
of_set c css set = numbers_from css set 0 (reached_devices c css set)

abbrev pub of_css : Configuration → ℕ → List (Place × ℕ)
of_css c css = flat_map (of_set c css) sets

abbrev pub all : Configuration → List (Place × ℕ)
all c = flat_map (of_css c) subsystems

pub css_alone : (c : Configuration) (p : Place) (css : ℕ) → (css ≡ p.css → ⊥) → find place_cmp p (of_css c css) ≡ None
css_alone c p css other =
    find_nowhere place_cmp p (of_set c css) (λ s. other_css p css s 0 (reached_devices c css s) other) sets

module _ (c : Configuration) (css s x : ℕ) where
  pub set_alone : (y : ℕ) → (y ≡ s → ⊥) → find place_cmp (at css s x) (of_set c css y) ≡ None
  set_alone y other = other_set (at css s x) css y 0 (reached_devices c css y) other

  pub found_set : (k : ℕ) → find place_cmp (at css s x) (all c) ≡ Some k
      → find place_cmp (at css s x) (of_set c css s) ≡ Some k
  found_set k is =
      found_in_part place_cmp (at css s x) (of_set c css) s set_alone sets k
      (found_in_part place_cmp (at css s x) (of_css c) css (css_alone c (at css s x)) subsystems k is)

-- the six channel subsystems, and the four sets
subsystem_there : (css : ℕ) → css < 6 → list_any (nat_eq css) subsystems ≡ true
subsystem_there zero h = refl
subsystem_there (suc zero) h = refl
subsystem_there (suc (suc zero)) h = refl
subsystem_there (suc (suc (suc zero))) h = refl
subsystem_there (suc (suc (suc (suc zero)))) h = refl
subsystem_there (suc (suc (suc (suc (suc zero))))) h = refl
subsystem_there (suc (suc (suc (suc (suc (suc css)))))) h = absurd (omega arith)

set_there : (s : ℕ) → s < 4 → list_any (nat_eq s) sets ≡ true
set_there zero h = refl
set_there (suc zero) h = refl
set_there (suc (suc zero)) h = refl
set_there (suc (suc (suc zero))) h = refl
set_there (suc (suc (suc (suc s)))) h = absurd (omega arith)

-- none of them stands twice
pub subsystems_distinct : AreDistinct subsystems
subsystems_distinct = (refl, (refl, (refl, (refl, (refl, (refl, tt))))))

pub sets_distinct : AreDistinct sets
sets_distinct = (refl, (refl, (refl, (refl, tt))))

module _ (c : Configuration) (css s x : ℕ) where
  -- a place is found in its set, and in its channel subsystem
  pub in_sets : list_any (nat_eq s) sets ≡ true
      → find place_cmp (at css s x) (of_css c css) ≡ find place_cmp (at css s x) (of_set c css s)
  in_sets there = find_part place_cmp (at css s x) (of_set c css) s (set_alone c css s x) sets sets_distinct there

  pub in_all : list_any (nat_eq css) subsystems ≡ true
      → find place_cmp (at css s x) (all c) ≡ find place_cmp (at css s x) (of_css c css)
  in_all there = find_part place_cmp (at css s x) (of_css c) css (css_alone c (at css s x)) subsystems
      subsystems_distinct there

-- ---- the devices of a set that are reached

abbrev pub reached_among : Lookup → ℕ → ℕ → List Rec → List ℕ
reached_among c css set rs =
    map (λ (d : DeviceRecord). d.number)
    (filter (λ (d : DeviceRecord). nat_eq d.set set && is_reached c css d) (filter_map as_device rs))

module _ (c : Lookup) (css set x : ℕ) where
  abbrev wanted : List Rec → Bool
  wanted rs = list_any (nat_eq x) (reached_among c css set rs)

  abbrev answer : Option Rec → Bool
  answer r = is_record_reached c css r

  pub counted_by : (d : DeviceRecord) (ds : List DeviceRecord) (b : Bool)
      → list_any (nat_eq x) (map (λ (e : DeviceRecord). e.number) (cond b (d ∷ ds) ds))
      ≡ ((b && nat_eq x d.number) || list_any (nat_eq x) (map (λ (e : DeviceRecord). e.number) ds))
  counted_by d ds true = refl
  counted_by d ds false = refl

  answer_by : (d : DeviceRecord) (f : Option Rec) (b : Bool)
      → answer (cond b (Some (device d)) f) ≡ cond b (is_reached c css d) (answer f)
  answer_by d f true = refl
  answer_by d f false = refl

  combined : (t b u w f : Bool) → w ≡ f → ((t && u) ≡ true → f ≡ false) → (((t && b) && u) || w) ≡ cond (t && u) b f
  combined true true true w f is none = refl
  combined true true false w f is none = is
  combined true false true w f is none = is ∙ none refl
  combined true false false w f is none = is
  combined false b u w f is none = is

  level : (q : Ordering) → is_eq (ordering_then q Equal) ≡ is_eq q
  level Less = refl
  level Equal = refl
  level Greater = refl

  same_device : (d : DeviceRecord)
      → eq_by_cmp key_cmp (Device set x) (Device d.set d.number) ≡ (nat_eq d.set set && nat_eq x d.number)
  same_device d =
      sym (both_tied (nat_eq set d.set) (nat_eq x d.number) (nat_cmp set d.set)
      (ordering_then (nat_cmp x d.number) Equal) (unsigned_ties set d.set)
      (unsigned_ties x d.number ∙ sym (level (nat_cmp x d.number))))
      ∙ ap (λ t. t && nat_eq x d.number) (nat_eq_equiv.symm set d.set)

  none_later : (d : DeviceRecord) (rs : List Rec) → T (below_all key_cmp (Device d.set d.number) (with_keys rs))
      → (nat_eq d.set set && nat_eq x d.number) ≡ true
      → answer (find key_cmp (Device set x) (with_keys rs)) ≡ false
  none_later d rs below e =
      let in_set : d.set ≡ set = eqb-true d.set set (first_so _ _ e) in
      let number : x ≡ d.number = eqb-true x d.number (second_so _ _ e) in
      ap answer (not_found key_cmp (Device set x) (with_keys rs)
      (subst (λ (k : Key). T (below_all key_cmp k (with_keys rs))) (λ i. Device (in_set i) (sym number i)) below))

  -- a device is in the list of those that are reached if its record says so
  pub listed : (rs : List Rec) → T (is_sorted key_cmp (with_keys rs))
      → wanted rs ≡ answer (find key_cmp (Device set x) (with_keys rs))
  listed [] up = refl
  listed (device d ∷ rs) up =
      counted_by d _ (nat_eq d.set set && is_reached c css d)
      ∙ combined (nat_eq d.set set) (is_reached c css d) (nat_eq x d.number) (wanted rs)
      (answer (find key_cmp (Device set x) (with_keys rs))) (listed rs (second_holds _ _ up))
      (none_later d rs (first_holds _ _ up))
      ∙ sym (ap (λ b. answer (cond b (Some (device d)) (find key_cmp (Device set x) (with_keys rs)))) (same_device d)
      ∙ answer_by d (find key_cmp (Device set x) (with_keys rs)) (nat_eq d.set set && nat_eq x d.number))
  listed (id y ∷ rs) up = listed rs (second_holds _ _ up)
  listed (resource y ∷ rs) up = listed rs (second_holds _ _ up)
  listed (image y ∷ rs) up = listed rs (second_holds _ _ up)
  listed (limit y ∷ rs) up = listed rs (second_holds _ _ up)
  listed (path y ∷ rs) up = listed rs (second_holds _ _ up)
  listed (unit y ∷ rs) up = listed rs (second_holds _ _ up)
  listed (online y ∷ rs) up = listed rs (second_holds _ _ up)

-- ---- the law

pub domain_at : (c : Configuration) → IsKeyed c → (css s x : ℕ) → css < 6 → s < 4
    → is_some (get (opening c) (at css s x)) ≡ is_record_reached (lookup_of c) css (lookup_of c (Device s x))
domain_at c keys css s x low few =
    ap is_some (get-from_entries places_total (all c) (at css s x) ∙ in_all c css s x (subsystem_there css low)
    ∙ in_sets c css s x (set_there s few))
    ∙ in_set css s 0 x (reached_devices c css s)
    ∙ listed (lookup_of c) css s x (records_of c)
    (subst (λ (es : List (Key × Rec)). T (is_sorted key_cmp es)) keys (entries_sorted c))
    ∙ ap (is_record_reached (lookup_of c) css)
    (ap (find key_cmp (Device s x)) (sym keys) ∙ sym (get-entries c (Device s x)))

apart_at : (c : Configuration) (css s x y k : ℕ) → get (opening c) (at css s x) ≡ Some k
    → get (opening c) (at css s y) ≡ Some k → x ≡ y
apart_at c css s x y k is was =
    one_number css s 0 x y k (reached_devices c css s)
    (found_set c css s x k (sym (get-from_entries places_total (all c) (at css s x)) ∙ is))
    (found_set c css s y k (sym (get-from_entries places_total (all c) (at css s y)) ∙ was))

-- no number comes twice at opening
pub opening_apart : (c : Configuration) (p q : Place) (number : ℕ) → p.css ≡ q.css → p.set ≡ q.set
    → get (opening c) p ≡ Some number → get (opening c) q ≡ Some number → p ≡ q
opening_apart c p q number css set is was =
    let moved = subst (λ (y : Place). get (opening c) y ≡ Some number)
    (λ i. record { css = sym css i; set = sym set i; device = q.device }) was in
    let same = apart_at c p.css p.set p.device q.device number is moved in
    λ i. record { css = css i; set = set i; device = same i }
