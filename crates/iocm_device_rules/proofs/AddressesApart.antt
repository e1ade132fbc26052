-- Devices with one unit address on a unit have a number in common. So where no number is there twice,
-- no device has the address of another.
use Rattle.std.proofs.Common.{◌≡◌, ℕ, ◌+◌, ◌<◌, ◌≤◌, Bool, true, false, nat_eq, ◌&&◌, None, List, [], ◌∷◌, ◌++◌}
use Rattle.std.proofs.Common.{append_assoc, length, get_or, drop, refl, sym, ap, ◌∙◌, arith}
use Rattle.std.proofs.Math.ListN.{drop_of_length-le}
use Rattle.std.proofs.lemmas.Bool.{false≢true}
use Rattle.std.proofs.lemmas.Bool.Decides.{nat_tests}
use Rattle.std.proofs.lemmas.List.{append-nil}
use Rattle.std.specs.List.{list_any, flat_map}
use Rattle.iocm_types.proofs.Lists.{drop-item}
use Rattle.iocm_model.specs.Machine.Configuration.{Configuration, IsKeyed, records_of}
use Rattle.iocm_model.specs.Machine.Record.{Rec, DeviceRecord, id, resource, image, limit, path, unit, device, online}
use Rattle.iocm_model.specs.Rules.EachRule.{breaks_v10, answers_on, has_twice, some_before}
use Rattle.iocm_lookup.specs.First.{first_key}
use Rattle.iocm_lookup.proofs.KindWalks.{GivesOfKind}
use Rattle.iocm_lookup.proofs.Apart.{Common, turned, common_of_two, none_clashes}
use Rattle.iocm_device_rules.specs.OnUnits.{number_on, numbers_of, unit_numbers}

-- records of other kinds have none
pub only_devices_give : GivesOfKind 6 unit_numbers
only_devices_give (id x) is = refl
only_devices_give (resource x) is = refl
only_devices_give (image x) is = refl
only_devices_give (limit x) is = refl
only_devices_give (path x) is = refl
only_devices_give (unit x) is = refl
only_devices_give (device x) is = absurd (false≢true (sym is))
only_devices_give (online x) is = refl

-- ---- one unit more

pub unit_more : (address : ℕ) (us : List ℕ) (i u : ℕ) (front grown : List ℕ) → i < length us → u ≡ get_or us i u
    → grown ≡ front ++ (number_on address u ∷ [])
    → grown ++ numbers_of address (drop (i + 1) us) ≡ front ++ numbers_of address (drop i us)
unit_more address us i u front grown within item is =
    ap (λ l. l ++ numbers_of address (drop (i + 1) us)) is
    ∙ append_assoc front (number_on address u ∷ []) (numbers_of address (drop (i + 1) us))
    ∙ ap (λ l. front ++ numbers_of address l) (sym (drop-item us i u within item))

pub unit_end : (address : ℕ) (us : List ℕ) (i : ℕ) (front : List ℕ) → length us ≤ i
    → front ++ numbers_of address (drop i us) ≡ front
unit_end address us i front past =
    ap (λ l. front ++ numbers_of address l) (drop_of_length-le us past) ∙ append-nil front

-- ---- devices

first : (a b : Bool) → (a && b) ≡ true → a ≡ true
first true b h = refl
first false b h = absurd (false≢true h)

second : (a b : Bool) → (a && b) ≡ true → b ≡ true
second true b h = h
second false b h = absurd (false≢true h)

same_value : (a b : ℕ) → nat_eq a b ≡ true → a ≡ b
same_value a b h = grind (arith, nat_tests)

-- a device that answers on a unit of a device record
clashes : Rec → Rec → Bool
clashes (device d) other = answers_on d.unit_address d.units other
clashes _ other = false

with_one : (c : Configuration) (r : Rec) → breaks_v10 c r ≡ true → some_before c r (clashes r) ≡ true
unfolding clashes
with_one c (device d) h = h
with_one c (id x) h = absurd (false≢true h)
with_one c (resource x) h = absurd (false≢true h)
with_one c (image x) h = absurd (false≢true h)
with_one c (limit x) h = absurd (false≢true h)
with_one c (path x) h = absurd (false≢true h)
with_one c (unit x) h = absurd (false≢true h)
with_one c (online x) h = absurd (false≢true h)

of_device : (d : DeviceRecord) (r : Rec) → answers_on d.unit_address d.units r ≡ true
    → Common (unit_numbers (device d)) (unit_numbers r)
of_device d (device e) h =
    let units = list_any (λ number. list_any (nat_eq number) d.units) e.units in
    let address = same_value e.unit_address d.unit_address (first (nat_eq e.unit_address d.unit_address) units h) in
    turned (numbers_of e.unit_address e.units) (numbers_of d.unit_address d.units)
    (common_of_two (number_on e.unit_address) (number_on d.unit_address) nat_eq
    (λ a b same. (λ i. number_on (address i) (same_value a b same i))) e.units d.units
    (second (nat_eq e.unit_address d.unit_address) units h))
of_device d (id x) h = absurd (false≢true h)
of_device d (resource x) h = absurd (false≢true h)
of_device d (image x) h = absurd (false≢true h)
of_device d (limit x) h = absurd (false≢true h)
of_device d (path x) h = absurd (false≢true h)
of_device d (unit x) h = absurd (false≢true h)
of_device d (online x) h = absurd (false≢true h)

common : (r other : Rec) → clashes r other ≡ true → Common (unit_numbers r) (unit_numbers other)
unfolding clashes
common (device d) other h = of_device d other h
common (id x) other h = absurd (false≢true h)
common (resource x) other h = absurd (false≢true h)
common (image x) other h = absurd (false≢true h)
common (limit x) other h = absurd (false≢true h)
common (path x) other h = absurd (false≢true h)
common (unit x) other h = absurd (false≢true h)
common (online x) other h = absurd (false≢true h)

-- where no number is there twice, no device breaks the rule
pub none_twice : (c : Configuration) → IsKeyed c → has_twice (flat_map unit_numbers (records_of c)) ≡ false
    → None ≡ first_key (breaks_v10 c) c
none_twice c keyed none = none_clashes c unit_numbers keyed none (breaks_v10 c) clashes (with_one c) common
