-- Units that share a link and a CUADD have a number in common. So where no number is there twice, no
-- unit answers to an address of another.
use Rattle.std.proofs.Common.{◌≡◌, ℕ, ◌+◌, ◌*◌, Bool, true, false, nat_eq, ◌&&◌, None, refl, sym, ap, arith}
use Rattle.std.proofs.lemmas.Bool.{false≢true}
use Rattle.std.proofs.lemmas.Bool.Decides.{nat_tests}
use Rattle.std.specs.List.{list_any, flat_map}
use Rattle.iocm_types.specs.declared.link.Link.{Link}
use Rattle.iocm_types.specs.declared.link.Link.TheVariants as link
use Rattle.iocm_model.specs.Machine.Configuration.{Configuration, IsKeyed, records_of}
use Rattle.iocm_model.specs.Machine.Numbering.{subsystems}
use Rattle.iocm_model.specs.Machine.Record.{Rec, UnitRecord, id, resource, image, limit, path, unit, device, online}
use Rattle.iocm_model.specs.Rules.EachRule.{breaks_v14, answers_for, overlap, share_link, same_link, linked_paths}
use Rattle.iocm_model.specs.Rules.EachRule.{cuadd_or_zero, has_twice, some_before}
use Rattle.iocm_lookup.specs.First.{first_key}
use Rattle.iocm_lookup.proofs.KindWalks.{GivesOfKind}
use Rattle.iocm_lookup.proofs.Apart.{Common, common_of_one, common_of_two, none_clashes}
use Rattle.iocm_unit_rules.specs.LinkNumbers.{link_number, number_on, numbers_in, link_numbers}

pub first : (a b : Bool) → (a && b) ≡ true → a ≡ true
first true b h = refl
first false b h = absurd (false≢true h)

pub second : (a b : Bool) → (a && b) ≡ true → b ≡ true
second true b h = h
second false b h = absurd (false≢true h)

-- records of other kinds have none
pub only_units_give : GivesOfKind 5 link_numbers
only_units_give (id x) is = refl
only_units_give (resource x) is = refl
only_units_give (image x) is = refl
only_units_give (limit x) is = refl
only_units_give (path x) is = refl
only_units_give (unit x) is = absurd (false≢true (sym is))
only_units_give (device x) is = refl
only_units_give (online x) is = refl

-- ---- one link has one number

pub same_value : (a b : ℕ) → nat_eq a b ≡ true → a ≡ b
same_value a b h = grind (arith, nat_tests)

one_number : (a b : Link) → same_link a b ≡ true → link_number a ≡ link_number b
one_number link.None link.None h = refl
one_number (link.Short a) (link.Short b) h = ap (λ n. 65536 + n) (same_value a b h)
one_number (link.Long a) (link.Long b) h = ap (λ n. 131072 + n) (same_value a b h)
one_number link.None (link.Short b) h = absurd (false≢true h)
one_number link.None (link.Long b) h = absurd (false≢true h)
one_number (link.Short a) link.None h = absurd (false≢true h)
one_number (link.Short a) (link.Long b) h = absurd (false≢true h)
one_number (link.Long a) link.None h = absurd (false≢true h)
one_number (link.Long a) (link.Short b) h = absurd (false≢true h)

-- ---- units

module _ (u v : UnitRecord) (cuadd : cuadd_or_zero u ≡ cuadd_or_zero v) where
  equal_on : (css : ℕ) (p q : ℕ × Link) → (nat_eq p.0 q.0 && same_link p.1 q.1) ≡ true
      → number_on css (cuadd_or_zero u) p ≡ number_on css (cuadd_or_zero v) q
  equal_on css p q h =
      let path = same_value p.0 q.0 (first (nat_eq p.0 q.0) (same_link p.1 q.1) h) in
      let its_link = one_number p.1 q.1 (second (nat_eq p.0 q.0) (same_link p.1 q.1) h) in
      (λ i. ((css * 256 + path i) * 262144 + its_link i) * 256 + cuadd i)

  common_in : (css : ℕ) → list_any
      (λ (p : ℕ × Link). list_any (λ (q : ℕ × Link). nat_eq p.0 q.0 && same_link p.1 q.1) (linked_paths css v))
      (linked_paths css u) ≡ true
      → Common (numbers_in u css) (numbers_in v css)
  common_in css any = common_of_two (number_on css (cuadd_or_zero u)) (number_on css (cuadd_or_zero v))
      (λ p q. nat_eq p.0 q.0 && same_link p.1 q.1)
      (equal_on css) (linked_paths css u) (linked_paths css v) any

  common_of_units : share_link u v ≡ true → Common (link_numbers (unit u)) (link_numbers (unit v))
  common_of_units any = common_of_one (numbers_in u) (numbers_in v)
      (λ css. list_any (λ (p : ℕ × Link).
      list_any (λ (q : ℕ × Link). nat_eq p.0 q.0 && same_link p.1 q.1) (linked_paths css v)) (linked_paths css u))
      common_in subsystems any

-- ---- the rule

-- a unit that answers to an address of a unit record
unfoldable pub clashes : Rec → Rec → Bool
clashes (unit u) other = answers_for u other
clashes _ other = false

pub with_one : (c : Configuration) (r : Rec) → breaks_v14 c r ≡ true → some_before c r (clashes r) ≡ true
unfolding clashes
with_one c (unit u) h = h
with_one c (id x) h = absurd (false≢true h)
with_one c (resource x) h = absurd (false≢true h)
with_one c (image x) h = absurd (false≢true h)
with_one c (limit x) h = absurd (false≢true h)
with_one c (path x) h = absurd (false≢true h)
with_one c (device x) h = absurd (false≢true h)
with_one c (online x) h = absurd (false≢true h)

pub of_unit : (u : UnitRecord) (r : Rec) → answers_for u r ≡ true → Common (link_numbers (unit u)) (link_numbers r)
of_unit u (unit v) h =
    let ranges = list_any (λ r. list_any (overlap r) v.ranges) u.ranges in
    let both = first (share_link u v && nat_eq (cuadd_or_zero u) (cuadd_or_zero v)) ranges h in
    common_of_units u v (same_value (cuadd_or_zero u) (cuadd_or_zero v)
    (second (share_link u v) (nat_eq (cuadd_or_zero u) (cuadd_or_zero v)) both))
    (first (share_link u v) (nat_eq (cuadd_or_zero u) (cuadd_or_zero v)) both)
of_unit u (id x) h = absurd (false≢true h)
of_unit u (resource x) h = absurd (false≢true h)
of_unit u (image x) h = absurd (false≢true h)
of_unit u (limit x) h = absurd (false≢true h)
of_unit u (path x) h = absurd (false≢true h)
of_unit u (device x) h = absurd (false≢true h)
of_unit u (online x) h = absurd (false≢true h)

common : (r other : Rec) → clashes r other ≡ true → Common (link_numbers r) (link_numbers other)
unfolding clashes
common (unit u) other h = of_unit u other h
common (id x) other h = absurd (false≢true h)
common (resource x) other h = absurd (false≢true h)
common (image x) other h = absurd (false≢true h)
common (limit x) other h = absurd (false≢true h)
common (path x) other h = absurd (false≢true h)
common (device x) other h = absurd (false≢true h)
common (online x) other h = absurd (false≢true h)

-- where no number is there twice, no unit breaks the rule
pub none_shares : (c : Configuration) → IsKeyed c → has_twice (flat_map link_numbers (records_of c)) ≡ false
    → None ≡ first_key (breaks_v14 c) c
none_shares c keyed none = none_clashes c link_numbers keyed none (breaks_v14 c) clashes (with_one c) common
