-- Ranges are those of the devices, and apart; and without filters all rows are left.
use Rattle.std.proofs.Common.{◌≡◌, ℕ, ◌+◌, ◌-◌, ◌≤◌, Bool, true, false, cond, nat_eq, not, List, [], ◌∷◌, ◌++◌, map}
use Rattle.std.proofs.Common.{filter, append_assoc, eqb-true, refl, sym, ap, ◌∙◌, arith}
use Rattle.std.proofs.lemmas.Bool.{and_parts, and_from}
use Rattle.std.proofs.lemmas.List.FromFn.{map-range_with_len_more}
use Rattle.std.specs.List.{flat_map, range_with_len}
use Rattle.iocm_model.specs.Machine.Record.{PathRecord, UnitRecord}
use Rattle.iocm_words.specs.declared.ranges.DeviceNumbers.{DeviceNumbers}
use Rattle.iocm_sight.specs.declared.devices.DeviceKey.{DeviceKey}
use Rattle.iocm_sight.specs.Connected.{paths_of, units_of}
use Rattle.iocm_list.specs.Joined.{alone, follows, joined_from, with_last}
use Rattle.iocm_list.specs.Laws.{AllPathsAreListed, AllUnitsAreListed, RangesAreApart, RangesAreTheDevices}
use Rattle.iocm_list.specs.Laws.{are_apart, are_apart_behind, device_in, devices_in, first_in}
use Rattle.iocm_list.specs.PathRows.{path_row}
use Rattle.iocm_list.specs.UnitRows.{unit_row}

-- ---- the devices of ranges

one_more : (first last number : ℕ) → first ≤ last → number ≡ last + 1
    → number + 1 - first ≡ (last + 1 - first) + 1
one_more first last number up e = omega arith

to_end : (first last : ℕ) → first ≤ last → first + (last + 1 - first) ≡ last + 1
to_end first last up = omega arith

-- a range that ends with the device that follows it has one device more
longer : (r : DeviceNumbers) (d : DeviceKey) → r.first ≤ r.last → follows r d ≡ true
    → devices_in (with_last r d) ≡ devices_in r ++ d ∷ []
longer r d up e =
    let parts = and_parts (nat_eq r.set d.set) (nat_eq d.number (r.last + 1)) e in
    let set : r.set ≡ d.set = eqb-true r.set d.set parts.0 in
    let next : d.number ≡ r.last + 1 = eqb-true d.number (r.last + 1) parts.1 in
    let device : device_in r.set (r.last + 1) ≡ d = λ i. record { set = set i; number = sym next i } in
    ap (λ n. map (device_in r.set) (range_with_len r.first n)) (one_more r.first r.last d.number up next)
    ∙ map-range_with_len_more (device_in r.set) r.first (r.last + 1 - r.first) (r.last + 1) (to_end r.first r.last up)
    ∙ ap (λ (x : DeviceKey). devices_in r ++ x ∷ []) device

only_one : (n : ℕ) → n + 1 - n ≡ 1
only_one n = omega arith

one_device : (d : DeviceKey) → devices_in (alone d) ≡ d ∷ []
one_device d = ap (λ n. map (device_in d.set) (range_with_len d.number n)) (only_one d.number)

still_up : (r : DeviceNumbers) (d : DeviceKey) → r.first ≤ r.last → follows r d ≡ true → r.first ≤ d.number
still_up r d up e =
    let next : d.number ≡ r.last + 1 = eqb-true d.number (r.last + 1)
    (and_parts (nat_eq r.set d.set) (nat_eq d.number (r.last + 1)) e).1 in
    omega arith

devices_from : (r : DeviceNumbers) (ds : List DeviceKey) → r.first ≤ r.last
    → flat_map devices_in (joined_from r ds) ≡ devices_in r ++ ds
devices_from r [] up = refl
devices_from r (d ∷ ds) up = by (follows r d) refl
    (λ e. devices_from (with_last r d) ds (still_up r d up e)) (devices_from (alone d) ds (omega arith))
  where
    by : (b : Bool) → follows r d ≡ b
        → (follows r d ≡ true → flat_map devices_in (joined_from (with_last r d) ds) ≡ devices_in (with_last r d) ++ ds)
        → flat_map devices_in (joined_from (alone d) ds) ≡ devices_in (alone d) ++ ds
        → flat_map devices_in (cond b (joined_from (with_last r d) ds) (r ∷ joined_from (alone d) ds))
        ≡ devices_in r ++ d ∷ ds
    by true e more other = more e ∙ ap (λ (xs : List DeviceKey). xs ++ ds) (longer r d up e)
        ∙ append_assoc (devices_in r) (d ∷ []) ds
    by false e more other = ap (λ (xs : List DeviceKey). devices_in r ++ xs)
        (other ∙ ap (λ (xs : List DeviceKey). xs ++ ds) (one_device d))

pub ranges_are_the_devices : RangesAreTheDevices
ranges_are_the_devices [] = refl
ranges_are_the_devices (d ∷ ds) =
    devices_from (alone d) ds (omega arith) ∙ ap (λ (xs : List DeviceKey). xs ++ ds) (one_device d)

-- ---- ranges apart

apart_from : (q r : DeviceNumbers) (ds : List DeviceKey) → not (follows q (first_in r)) ≡ true
    → are_apart_behind q (joined_from r ds) ≡ true
apart_from q r [] h = and_from (not (follows q (first_in r))) true h refl
apart_from q r (d ∷ ds) h = by (follows r d) refl (apart_from q (with_last r d) ds h) (apart_from r (alone d) ds)
  where
    by : (b : Bool) → follows r d ≡ b → are_apart_behind q (joined_from (with_last r d) ds) ≡ true
        → (not (follows r (first_in (alone d))) ≡ true → are_apart_behind r (joined_from (alone d) ds) ≡ true)
        → are_apart_behind q (cond b (joined_from (with_last r d) ds) (r ∷ joined_from (alone d) ds)) ≡ true
    by true e here other = here
    by false e here other = and_from (not (follows q (first_in r))) (are_apart_behind r (joined_from (alone d) ds)) h
        (other (ap not e))

apart_in : (r : DeviceNumbers) (ds : List DeviceKey) → are_apart (joined_from r ds) ≡ true
apart_in r [] = refl
apart_in r (d ∷ ds) = by (follows r d) refl (apart_in (with_last r d) ds) (apart_from r (alone d) ds)
  where
    by : (b : Bool) → follows r d ≡ b → are_apart (joined_from (with_last r d) ds) ≡ true
        → (not (follows r (first_in (alone d))) ≡ true → are_apart_behind r (joined_from (alone d) ds) ≡ true)
        → are_apart (cond b (joined_from (with_last r d) ds) (r ∷ joined_from (alone d) ds)) ≡ true
    by true e here other = here
    by false e here other = other (ap not e)

pub ranges_are_apart : RangesAreApart
ranges_are_apart [] = refl
ranges_are_apart (d ∷ ds) = apart_in (alone d) ds

-- ---- without filters

all_kept : {A : Type 0} (xs : List A) → filter (λ x. true) xs ≡ xs
all_kept [] = refl
all_kept (x ∷ xs) = ap (λ ys. x ∷ ys) (all_kept xs)

pub all_paths : AllPathsAreListed
all_paths c online = ap (λ (ps : List PathRecord). map (path_row c) ps) (all_kept (paths_of c))

pub all_units : AllUnitsAreListed
all_units c online = ap (λ (us : List UnitRecord). map (unit_row c) us) (all_kept (units_of c))

pub ruleset ranges = (ranges_are_the_devices, ranges_are_apart)

pub ruleset all_listed = (all_paths, all_units)
