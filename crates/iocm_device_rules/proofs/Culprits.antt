-- The least device that has the address of another before it on one of its units is the first that
-- breaks the rule.
use Rattle.std.proofs.Common.{◌≡◌, ◌⊎◌, inl, inr, ℕ, Bool, true, false, ◌&&◌, ◌||◌, ◌==◌, nat_eq, nat_lt, length}
use Rattle.std.proofs.Common.{is_none, unwrap_or, Option, None, Some, List, [], ◌∷◌, ◌++◌, map, refl, sym, ap, subst}
use Rattle.std.proofs.Common.{◌∙◌, arith}
use Rattle.std.proofs.lemmas.Bool.{false≢true}
use Rattle.std.proofs.lemmas.Bool.Decides.{nat_tests}
use Rattle.std.proofs.lemmas.List.Folds.{list_any-append}
use Rattle.std.specs.List.{list_any}
use Rattle.std.specs.Option.{option_map, option_map_or}
use Rattle.std.specs.Ordering.{is_lt, eq_by_cmp}
use Rattle.std.specs.FinMap.{get}
use Rattle.iocm_types.specs.declared.key.Key.{Key}
use Rattle.iocm_types.specs.declared.key.Key.TheVariants as key
use Rattle.iocm_types.specs.declared.named.Named.{Named}
use Rattle.iocm_types.specs.declared.named.Named.TheVariants as thing
use Rattle.iocm_types.specs.declared.naming.Naming.{Naming}
use Rattle.iocm_types.specs.Key.{key_cmp}
use Rattle.iocm_types.specs.KeyOrder.{named_exact}
use Rattle.iocm_types.specs.Naming.{named_cmp, naming_cmp}
use Rattle.iocm_types.proofs.Found.{same_key, ties_itself}
use Rattle.iocm_table.specs.Slots.{Stored, rows}
use Rattle.iocm_index.specs.Namings.{naming, users_in}
use Rattle.iocm_index.proofs.Front.{named_total}
use Rattle.iocm_index.proofs.Members.{users_name_it, users_in_order}
use Rattle.iocm_model.specs.Machine.Record.{Rec, DeviceRecord, id, resource, image, limit, path, unit, device, online}
use Rattle.iocm_model.specs.Machine.Record.{key_of}
use Rattle.iocm_model.specs.Machine.Configuration.{Configuration, IsKeyed, lookup_of, records_of}
use Rattle.iocm_model.specs.Machine.Naming.{unit_named, address_named, image_named}
use Rattle.iocm_model.specs.Rules.EachRule.{has_twice, breaks_v8, breaks_v10, answers_on, stands_before}
use Rattle.iocm_model.specs.Rules.FirstBreach.{first_record}
use Rattle.iocm_model.proofs.Machine.OwnKeys.{keyed_own}
use Rattle.iocm_lookup.specs.Indexed.{names, IsIndexOf}
use Rattle.iocm_lookup.proofs.Anys.{or_later}
use Rattle.iocm_lookup.proofs.Members.{record_found, record_there}
use Rattle.iocm_lookup.specs.Among.{least_of, is_so_at}
use Rattle.iocm_lookup.proofs.AtMost.{IsAtMost, least_at_most, least_is_given, IsGiver}
use Rattle.iocm_lookup.proofs.Firsts.{IsSoAt, least_so_is_first, records_are_there, none_is_so}
use Rattle.iocm_lookup.specs.Repeats.{address_in, repeated_on}
use Rattle.iocm_lookup.proofs.RepeatedUsers.{IsRepeated, IsBefore, less_key, first_is_repeated, repeated_has_first}
use Rattle.iocm_device_rules.specs.Addresses.{unit_address, any_record, clash_on, clash_of}

-- ---- tests

first_of : (a b : Bool) → (a && b) ≡ true → a ≡ true
first_of true b h = refl
first_of false b h = cc

second_of : (a b : Bool) → (a && b) ≡ true → b ≡ true
second_of true b h = h
second_of false b h = cc

both_of : (a b : Bool) → a ≡ true → b ≡ true → (a && b) ≡ true
both_of a b h i = ap (λ c. c && b) h ∙ i

last_fails : (a b c d : Bool) → (a || b || c || d) ≡ false → d ≡ false
last_fails true b c d h = absurd (false≢true (sym h))
last_fails false true c d h = absurd (false≢true (sym h))
last_fails false false true d h = absurd (false≢true (sym h))
last_fails false false false d h = h

same_number : (a b : ℕ) → nat_eq a b ≡ true → a ≡ b
same_number a b h = grind (arith, nat_tests)

equal_numbers : (a b : ℕ) → a ≡ b → nat_eq a b ≡ true
equal_numbers a b h = grind (arith, nat_tests)

-- a number in a list that passes a test
record IsNumberAmong (test : ℕ → Bool) (xs : List ℕ) : Type 0 where
  number : ℕ
  there : list_any (nat_eq number) xs ≡ true
  passes : test number ≡ true

number_found : (test : ℕ → Bool) (xs : List ℕ) → list_any test xs ≡ true → IsNumberAmong test xs
number_found test [] any = cc
number_found test (x ∷ xs) any = by (test x) refl any (number_found test xs)
  where
    by : (b : Bool) → test x ≡ b → (b || list_any test xs) ≡ true → (list_any test xs ≡ true → IsNumberAmong test xs)
        → IsNumberAmong test (x ∷ xs)
    by true is h more = record
        { number = x; there = ap (λ b. b || list_any (nat_eq x) xs) (equal_numbers x x refl); passes = is }
    by false is h more = let later = more h in
        record { number = later.number; there = or_later (nat_eq later.number x) _ later.there; passes = later.passes }

number_there : (test : ℕ → Bool) (xs : List ℕ) (n : ℕ) → list_any (nat_eq n) xs ≡ true → test n ≡ true
    → list_any test xs ≡ true
number_there test [] n any passes = cc
number_there test (x ∷ xs) n any passes = by (nat_eq n x) refl any (λ h. number_there test xs n h passes)
  where
    by : (b : Bool) → nat_eq n x ≡ b → (b || list_any (nat_eq n) xs) ≡ true
        → (list_any (nat_eq n) xs ≡ true → list_any test xs ≡ true) → (test x || list_any test xs) ≡ true
    by true is h more = ap (λ b. b || list_any test xs) (ap test (sym (same_number n x is)) ∙ passes)
    by false is h more = or_later (test x) _ (more h)

-- ---- devices and the units that they name

unit_of_thing : Named → ℕ
unit_of_thing (thing.Record (key.Unit n)) = n
unit_of_thing _ = 0

same_unit : (a b : ℕ) → eq_by_cmp named_cmp (thing.Record (key.Unit a)) (thing.Record (key.Unit b)) ≡ nat_eq a b
unfolding unit_of_thing
same_unit a b = by (eq_by_cmp named_cmp (thing.Record (key.Unit a)) (thing.Record (key.Unit b))) (nat_eq a b) refl refl
  where
    by : (s t : Bool) → eq_by_cmp named_cmp (thing.Record (key.Unit a)) (thing.Record (key.Unit b)) ≡ s → nat_eq a b ≡ t
        → s ≡ t
    by true true e f = refl
    by false false e f = refl
    by true false e f = absurd
        (false≢true (sym f ∙ equal_numbers a b
        (ap unit_of_thing (same_key named_cmp named_exact (thing.Record (key.Unit a)) (thing.Record (key.Unit b))
        e))))
    by false true e f = absurd
        (false≢true (sym e ∙ ap (λ n. eq_by_cmp named_cmp (thing.Record (key.Unit a)) (thing.Record (key.Unit n)))
        (sym (same_number a b f))
        ∙ ties_itself named_cmp named_total (thing.Record (key.Unit a))))

no_image : (n : ℕ) (ns : List (List ℕ))
    → list_any (eq_by_cmp named_cmp (thing.Record (key.Unit n))) (map image_named ns) ≡ false
no_image n [] = refl
no_image n (x ∷ xs) = no_image n xs

units_named : (n : ℕ) (us : List ℕ)
    → list_any (eq_by_cmp named_cmp (thing.Record (key.Unit n))) (map unit_named us) ≡ list_any (nat_eq n) us
units_named n [] = refl
units_named n (u ∷ us) = λ i. same_unit n u i || units_named n us i

no_address_named : (n a : ℕ) (us : List ℕ)
    → list_any (eq_by_cmp named_cmp (thing.Record (key.Unit n))) (map (address_named a) us) ≡ false
no_address_named n a [] = refl
no_address_named n a (u ∷ us) = no_address_named n a us

or_false : (a b : Bool) → b ≡ false → (a || b) ≡ a
or_false true b h = refl
or_false false b h = h

-- a device names the units of its list
device_names : (n : ℕ) (d : DeviceRecord)
    → names (thing.Record (key.Unit n)) (Some (device d)) ≡ list_any (nat_eq n) d.units
device_names n d =
    let test = eq_by_cmp named_cmp (thing.Record (key.Unit n)) in
    let images = map image_named (unwrap_or d.candidates []) in
    let addresses = map (address_named d.unit_address) d.units in
    list_any-append test (map unit_named d.units ++ addresses) images
    ∙ or_false _ _ (no_image n (unwrap_or d.candidates []))
    ∙ list_any-append test (map unit_named d.units) addresses ∙ or_false _ _ (no_address_named n d.unit_address d.units)
    ∙ units_named n d.units

-- ---- devices and the unit addresses that they name

unit_in : Named → ℕ
unit_in (thing.Address n a) = n
unit_in _ = 0

no_unit_named : (n a : ℕ) (us : List ℕ) → list_any (eq_by_cmp named_cmp (thing.Address n a)) (map unit_named us) ≡ false
no_unit_named n a [] = refl
no_unit_named n a (u ∷ us) = no_unit_named n a us

no_image_there : (n a : ℕ) (ns : List (List ℕ))
    → list_any (eq_by_cmp named_cmp (thing.Address n a)) (map image_named ns) ≡ false
no_image_there n a [] = refl
no_image_there n a (x ∷ xs) = no_image_there n a xs

addresses_named : (n a b : ℕ) (us : List ℕ)
    → list_any (eq_by_cmp named_cmp (thing.Address n a)) (map (address_named b) us) ≡ true
    → list_any (nat_eq n) us ≡ true
unfolding unit_in
addresses_named n a b [] h = absurd (false≢true h)
addresses_named n a b (u ∷ us) h =
    by (eq_by_cmp named_cmp (thing.Address n a) (thing.Address u b)) refl h (addresses_named n a b us)
  where
    by : (t : Bool) → eq_by_cmp named_cmp (thing.Address n a) (thing.Address u b) ≡ t
        → (t || list_any (eq_by_cmp named_cmp (thing.Address n a)) (map (address_named b) us)) ≡ true
        → (list_any (eq_by_cmp named_cmp (thing.Address n a)) (map (address_named b) us) ≡ true
        → list_any (nat_eq n) us ≡ true)
        → (nat_eq n u || list_any (nat_eq n) us) ≡ true
    by true is h more = ap (λ t. t || list_any (nat_eq n) us)
        (equal_numbers n u (ap unit_in (same_key named_cmp named_exact (thing.Address n a) (thing.Address u b) is)))
    by false is h more = or_later (nat_eq n u) _ (more h)

unit_is_named : (n b : ℕ) (us : List ℕ) → list_any (nat_eq n) us ≡ true
    → list_any (eq_by_cmp named_cmp (thing.Address n b)) (map (address_named b) us) ≡ true
unit_is_named n b [] h = absurd (false≢true h)
unit_is_named n b (u ∷ us) h = by (nat_eq n u) refl h (unit_is_named n b us)
  where
    by : (t : Bool) → nat_eq n u ≡ t → (t || list_any (nat_eq n) us) ≡ true
        → (list_any (nat_eq n) us ≡ true
        → list_any (eq_by_cmp named_cmp (thing.Address n b)) (map (address_named b) us) ≡ true)
        → (eq_by_cmp named_cmp (thing.Address n b) (thing.Address u b)
        || list_any (eq_by_cmp named_cmp (thing.Address n b)) (map (address_named b) us)) ≡ true
    by true is h more = ap (λ t. t || list_any (eq_by_cmp named_cmp (thing.Address n b)) (map (address_named b) us))
        (ap (λ m. eq_by_cmp named_cmp (thing.Address n b) (thing.Address m b)) (sym (same_number n u is))
        ∙ ties_itself named_cmp named_total (thing.Address n b))
    by false is h more = or_later (eq_by_cmp named_cmp (thing.Address n b) (thing.Address u b)) _ (more h)

device_names_address : (n a : ℕ) (d : DeviceRecord) → names (thing.Address n a) (Some (device d))
    ≡ list_any (eq_by_cmp named_cmp (thing.Address n a)) (map (address_named d.unit_address) d.units)
device_names_address n a d =
    let test = eq_by_cmp named_cmp (thing.Address n a) in
    let images = map image_named (unwrap_or d.candidates []) in
    let addresses = map (address_named d.unit_address) d.units in
    list_any-append test (map unit_named d.units ++ addresses) images
    ∙ or_false _ _ (no_image_there n a (unwrap_or d.candidates []))
    ∙ list_any-append test (map unit_named d.units) addresses
    ∙ ap (λ b. b || list_any test addresses) (no_unit_named n a d.units)

-- a device names an address at its units alone
pub is_on_unit : (n a : ℕ) (d : DeviceRecord) → names (thing.Address n a) (Some (device d)) ≡ true
    → list_any (nat_eq n) d.units ≡ true
is_on_unit n a d h = addresses_named n a d.unit_address d.units (sym (device_names_address n a d) ∙ h)

-- and its own at each of these
pub names_own : (n a : ℕ) (d : DeviceRecord) → d.unit_address ≡ a → list_any (nat_eq n) d.units ≡ true
    → names (thing.Address n a) (Some (device d)) ≡ true
names_own n a d own h = subst (λ (b : ℕ). names (thing.Address n b) (Some (device d)) ≡ true) own
    (device_names_address n d.unit_address d ∙ unit_is_named n d.unit_address d.units h)

-- a device at an address
record IsDeviceAt (o : Option Rec) (at : ℕ) : Type 0 where
  one : DeviceRecord
  is : o ≡ Some (device one)
  has : one.unit_address ≡ at

device_at : (o : Option Rec) (at : ℕ) → address_in unit_address o ≡ Some at → IsDeviceAt o at
device_at None at h = cc
device_at (Some (device d)) at h = let same : d.unit_address ≡ at = cc in record { one = d; is = refl; has = same }
device_at (Some (id x)) at h = cc
device_at (Some (resource x)) at h = cc
device_at (Some (image x)) at h = cc
device_at (Some (limit x)) at h = cc
device_at (Some (path x)) at h = cc
device_at (Some (unit x)) at h = cc
device_at (Some (online x)) at h = cc

-- a unit of a number
abbrev is_unit : ℕ → Rec → Bool
is_unit n (unit u) = nat_eq u.number n
is_unit n _ = false

own_unit : (n : ℕ) (r : Rec) → key_of r ≡ key.Unit n → is_unit n r ≡ true
own_unit n (unit u) own = let same : u.number ≡ n = cc in equal_numbers u.number n same
own_unit n (id x) own = cc
own_unit n (resource x) own = cc
own_unit n (image x) own = cc
own_unit n (limit x) own = cc
own_unit n (path x) own = cc
own_unit n (device x) own = cc
own_unit n (online x) own = cc

-- ---- a device that breaks the rule

-- a record is that of a device
record IsDevice (r : Rec) : Type 0 where
  one : DeviceRecord
  is : r ≡ device one

is_device : (c : Configuration) (r : Rec) → breaks_v10 c r ≡ true → IsDevice r
is_device c (device d) so = record { one = d; is = refl }
is_device c (id x) so = absurd (false≢true so)
is_device c (resource x) so = absurd (false≢true so)
is_device c (image x) so = absurd (false≢true so)
is_device c (limit x) so = absurd (false≢true so)
is_device c (path x) so = absurd (false≢true so)
is_device c (unit x) so = absurd (false≢true so)
is_device c (online x) so = absurd (false≢true so)

-- a device before another with its unit address, and a unit that both name
pub record IsOther (c : Configuration) (d : DeviceRecord) : Type 0 where
  pub other : DeviceRecord
  pub there : get c (key_of (device other)) ≡ Some (device other)
  pub so : (stands_before (device other) (device d) && answers_on d.unit_address d.units (device other)) ≡ true
  pub unit : ℕ
  pub in_other : list_any (nat_eq unit) other.units ≡ true
  pub in_own : list_any (nat_eq unit) d.units ≡ true

other_of : (c : Configuration) (d : DeviceRecord) (r : Rec) → get c (key_of r) ≡ Some r
    → (stands_before r (device d) && answers_on d.unit_address d.units r) ≡ true → IsOther c d
other_of c d (device e) there so =
    let n = number_found (λ number. list_any (nat_eq number) d.units) e.units
    (second_of (nat_eq e.unit_address d.unit_address) _ (second_of (stands_before (device e) (device d)) _ so)) in
    record { other = e; there = there; so = so; unit = n.number; in_other = n.there; in_own = n.passes }
other_of c d (id x) there so = absurd (false≢true (second_of (stands_before (id x) (device d)) false so))
other_of c d (resource x) there so = absurd (false≢true (second_of (stands_before (resource x) (device d)) false so))
other_of c d (image x) there so = absurd (false≢true (second_of (stands_before (image x) (device d)) false so))
other_of c d (limit x) there so = absurd (false≢true (second_of (stands_before (limit x) (device d)) false so))
other_of c d (path x) there so = absurd (false≢true (second_of (stands_before (path x) (device d)) false so))
other_of c d (unit x) there so = absurd (false≢true (second_of (stands_before (unit x) (device d)) false so))
other_of c d (online x) there so = absurd (false≢true (second_of (stands_before (online x) (device d)) false so))

-- the other has the same address
pub same_address : (c : Configuration) (d : DeviceRecord) (o : IsOther c d) → o.other.unit_address ≡ d.unit_address
same_address c d o = same_number o.other.unit_address d.unit_address
    (first_of (nat_eq o.other.unit_address d.unit_address) _
    (second_of (stands_before (device o.other) (device d)) _ o.so))

-- a record that breaks the rule: a device, and another before it
pub record IsCulprit (c : Configuration) (k : Key) : Type 0 where
  pub one : DeviceRecord
  pub here : get c k ≡ Some (device one)
  pub before : IsOther c one

pub culprit_found : (c : Configuration) → IsKeyed c → (k : Key) (r : Rec) → get c k ≡ Some r → breaks_v10 c r ≡ true
    → IsCulprit c k
culprit_found c keyed k r here so =
    let d = is_device c r so in
    let m = record_found c (λ other.
    stands_before other (device d.one) && answers_on d.one.unit_address d.one.units other) keyed
    (sym (ap (breaks_v10 c) d.is) ∙ so) in
    record { one = d.one; here = here ∙ ap Some d.is; before = other_of c d.one m.member m.there m.passes }

module _ (c : Configuration) (t : Stored Naming (Unit {0})) (keyed : IsKeyed c) (of : IsIndexOf c t) where
  -- the users of a thing, and their addresses
  abbrev users : Named → List Key
  users it = users_in it (rows naming_cmp t)

  abbrev on_unit : ℕ → Named
  on_unit n = thing.Record (key.Unit n)

  abbrev address : Key → Option ℕ
  address k = address_in unit_address (lookup_of c k)

  -- each is looked for
  abbrev wanted : Key → Bool
  wanted k = is_so_at any_record (lookup_of c) k

  abbrev no_address : ℕ → Bool
  no_address a = false

  is_user : (it : Named) (k : Key) (d : DeviceRecord) → get c k ≡ Some (device d)
      → list_any (eq_by_cmp key_cmp k) (users it) ≡ names it (Some (device d))
  is_user it k d here = users_name_it it (rows naming_cmp t) k ∙ of (naming k it) ∙ ap (names it) here

  -- ---- a clash is a device that breaks the rule, where each device that names the thing is on a unit

  pub clash_breaks : (it : Named) (n : ℕ)
      → ((d : DeviceRecord) → names it (Some (device d)) ≡ true → list_any (nat_eq n) d.units ≡ true)
      → (k : Key) → IsRepeated address wanted no_address (users it) k → IsSoAt (breaks_v10 c) (get c) k
  clash_breaks it n on k clash = by clash.before
    where
      with_both : (b : IsBefore address wanted (users it) k clash.at) → IsDeviceAt (get c k) clash.at
          → IsDeviceAt (get c b.other) clash.at → IsSoAt (breaks_v10 c) (get c) k
      with_both b d e = record {
        one = device d.one;
        there = d.is;
        so = record_there c (λ r. stands_before r (device d.one) && answers_on d.one.unit_address d.one.units r) b.other
            (device e.one) e.is
            (both_of _ _ (ap is_lt ((λ i.
            key_cmp (keyed_own c keyed b.other (device e.one) e.is i) (keyed_own c keyed k (device d.one) d.is i))
            ∙ b.less))
            (both_of _ _ (equal_numbers e.one.unit_address d.one.unit_address (e.has ∙ sym d.has))
            (number_there (λ number. list_any (nat_eq number) d.one.units) e.one.units n
            (on e.one (sym (is_user it b.other e.one e.is) ∙ b.there))
            (on d.one (sym (is_user it k d.one d.is) ∙ clash.there)))));
      }

      by : (no_address clash.at ≡ true) ⊎ IsBefore address wanted (users it) k clash.at
          → IsSoAt (breaks_v10 c) (get c) k
      by (inl m) = absurd (false≢true m)
      by (inr b) = with_both b (device_at (get c k) clash.at clash.has) (device_at (get c b.other) clash.at b.has)

  giver_breaks : (r : Rec) (k : Key) → clash_of (lookup_of c) (rows naming_cmp t) r ≡ Some k
      → IsSoAt (breaks_v10 c) (get c) k
  giver_breaks (unit u) k is = clash_breaks (on_unit u.number) u.number (λ d h. sym (device_names u.number d) ∙ h) k
      (first_is_repeated address wanted no_address (users (on_unit u.number))
      (users_in_order (on_unit u.number) (rows naming_cmp t)) k is)
  giver_breaks (id x) k is = cc
  giver_breaks (resource x) k is = cc
  giver_breaks (image x) k is = cc
  giver_breaks (limit x) k is = cc
  giver_breaks (path x) k is = cc
  giver_breaks (device x) k is = cc
  giver_breaks (online x) k is = cc

  sound : (k : Key) → least_of (clash_of (lookup_of c) (rows naming_cmp t)) None (records_of c) ≡ Some k
      → IsSoAt (breaks_v10 c) (get c) k
  sound k is = by (least_is_given (clash_of (lookup_of c) (rows naming_cmp t)) (λ r. get c (key_of r) ≡ Some r)
      (records_of c) (records_are_there c keyed) None k is)
    where
      by : (None ≡ Some k) ⊎ IsGiver (clash_of (lookup_of c) (rows naming_cmp t)) (λ r. get c (key_of r) ≡ Some r) k
          → IsSoAt (breaks_v10 c) (get c) k
      by (inl h) = cc
      by (inr g) = giver_breaks g.giver k g.given

  -- ---- a device that breaks the rule is a clash on a unit

  -- a device that breaks the rule is a clash on what both of the devices name
  pub clash_of_culprit : (it : Named) (k : Key) (culprit : IsCulprit c k) → names it (Some (device culprit.one)) ≡ true
      → names it (Some (device culprit.before.other)) ≡ true → IsRepeated address wanted no_address (users it) k
  clash_of_culprit it k culprit own others =
      let d = culprit.one in
      let o = culprit.before in
      let e = o.other in
      record {
        there = is_user it k d culprit.here ∙ own;
        so = ap (λ r. option_map_or any_record r false) culprit.here;
        at = d.unit_address;
        has = ap (address_in unit_address) culprit.here;
        before = inr (record {
          other = key_of (device e);
          there = is_user it (key_of (device e)) e o.there ∙ others;
          has = ap (address_in unit_address) o.there
              ∙ ap Some (same_address c d o);
          less = less_key (key_cmp (key_of (device e)) k)
              (ap (λ (q : Key). is_lt (key_cmp (key_of (device e)) q))
              (sym (keyed_own c keyed k (device d) culprit.here))
              ∙ first_of (stands_before (device e) (device d)) _ o.so);
        });
      }

  -- so the first clash there is not behind it
  pub repeated_not_behind : (it : Named) (k : Key) (culprit : IsCulprit c k)
      → names it (Some (device culprit.one)) ≡ true
      → names it (Some (device culprit.before.other)) ≡ true
      → IsAtMost (repeated_on unit_address any_record (lookup_of c) (rows naming_cmp t) it) k
  repeated_not_behind it k culprit own others =
      let f = repeated_has_first address wanted no_address (users it) (users_in_order it (rows naming_cmp t)) k
      (clash_of_culprit it k culprit own others) in
      record { found = f.found; is = f.is; not_behind = f.not_behind }

  clash_not_behind : (k : Key) (culprit : IsCulprit c k)
      → IsAtMost (clash_on (lookup_of c) (rows naming_cmp t) culprit.before.unit) k
  clash_not_behind k culprit = let o = culprit.before in
      repeated_not_behind (on_unit o.unit) k culprit (device_names o.unit culprit.one ∙ o.in_own)
      (device_names o.unit o.other ∙ o.in_other)

  module _ (kept : first_record (breaks_v8 c) (records_of c) ≡ None) where
    -- the unit that is there gives a key that is not behind it
    given : (k : Key) (culprit : IsCulprit c k) (r : Rec) → is_unit culprit.before.unit r ≡ true
        → IsAtMost (clash_of (lookup_of c) (rows naming_cmp t) r) k
    given k culprit (unit u) same = subst (λ (n : ℕ). IsAtMost (clash_on (lookup_of c) (rows naming_cmp t) n) k)
        (sym (same_number u.number culprit.before.unit same))
        (clash_not_behind k culprit)
    given k culprit (id x) same = absurd (false≢true same)
    given k culprit (resource x) same = absurd (false≢true same)
    given k culprit (image x) same = absurd (false≢true same)
    given k culprit (limit x) same = absurd (false≢true same)
    given k culprit (path x) same = absurd (false≢true same)
    given k culprit (device x) same = absurd (false≢true same)
    given k culprit (online x) same = absurd (false≢true same)

    -- each unit of a device that is there is there
    unit_there : (k : Key) (d : DeviceRecord) (n : ℕ) → get c k ≡ Some (device d) → list_any (nat_eq n) d.units ≡ true
        → list_any (is_unit n) (records_of c) ≡ true
    unit_there k d n here in_own = by (get c (key.Unit n)) refl
      where
        none_missing : list_any (λ number. is_none (lookup_of c (key.Unit number))) d.units ≡ false
        none_missing = last_fails (length d.units == 0) (nat_lt 8 (length d.units)) (has_twice d.units)
            (list_any (λ number. is_none (lookup_of c (key.Unit number))) d.units)
            (none_is_so (breaks_v8 c) c kept k (device d) here)

        by : (o : Option Rec) → get c (key.Unit n) ≡ o → list_any (is_unit n) (records_of c) ≡ true
        by None is = absurd (false≢true
            (sym none_missing ∙ number_there (λ number. is_none (lookup_of c (key.Unit number))) d.units n in_own
            (ap is_none is)))
        by (Some r) is = record_there c (is_unit n) (key.Unit n) r is
            (own_unit n r (keyed_own c keyed (key.Unit n) r is))

    least_at : (k : Key) (r : Rec) → get c k ≡ Some r → breaks_v10 c r ≡ true
        → IsAtMost (least_of (clash_of (lookup_of c) (rows naming_cmp t)) None (records_of c)) k
    least_at k r here so =
        let culprit = culprit_found c keyed k r here so in
        least_at_most (clash_of (lookup_of c) (rows naming_cmp t)) (is_unit culprit.before.unit) k (given k culprit)
        (records_of c) None
        (unit_there k culprit.one culprit.before.unit culprit.here culprit.before.in_own)

    -- the least of all units' first clashes is the first device that breaks the rule
    pub least_is_first : least_of (clash_of (lookup_of c) (rows naming_cmp t)) None (records_of c)
        ≡ option_map key_of (first_record (breaks_v10 c) (records_of c))
    least_is_first = least_so_is_first (breaks_v10 c) c keyed
        (least_of (clash_of (lookup_of c) (rows naming_cmp t)) None (records_of c)) sound least_at
