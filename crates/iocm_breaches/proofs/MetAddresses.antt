-- A device breaks V10 exactly where it meets an address of a device before it.
use Rattle.std.proofs.Common.{◌≡◌, ℕ, ◌<◌, ◌&&◌, ◌||◌, nat_eq, Bool, true, false, List, [], ◌∷◌, ◌++◌, map, cond}
use Rattle.std.proofs.Common.{append_assoc, T, refl, sym, ap, subst, ◌∙◌}
use Rattle.std.proofs.lemmas.List.{append-nil}
use Rattle.std.proofs.lemmas.List.Folds.{list_any-append}
use Rattle.std.specs.BTreeMap.{is_at}
use Rattle.std.specs.BTreeSet.{BTreeSet, IsEmpty}
use Rattle.std.specs.Cmp.{tied_itself}
use Rattle.std.specs.FinMap.{entries, entries_sorted}
use Rattle.std.specs.FinMap.Entries.{is_sorted, below_all}
use Rattle.std.specs.List.{list_any, flat_map, AllByRecursion}
use Rattle.std.specs.Ordering.{is_lt, nat_cmp}
use Rattle.std.specs.declared.cmp.Ordering.{Ordering}
use Rattle.std.specs.declared.cmp.Ordering.TheVariants.{Less, Equal, Greater}
use Rattle.iocm_types.specs.declared.key.Key.{Key}
use Rattle.iocm_types.specs.declared.rule.Rule.TheVariants.{V10}
use Rattle.iocm_types.specs.Key.{key_cmp}
use Rattle.iocm_types.specs.KeyOrder.{keys_total}
use Rattle.iocm_types.proofs.Orderings.{less_is}
use Rattle.iocm_types.proofs.Tests.{first_holds, second_holds}
use Rattle.iocm_model.specs.Machine.Record.{Rec, DeviceRecord, id, resource, image, limit, path, unit, device, online}
use Rattle.iocm_model.specs.Machine.Record.{key_of}
use Rattle.iocm_model.specs.Machine.Configuration.{Configuration, IsKeyed, records_of}
use Rattle.iocm_model.specs.Rules.EachRule.{breaks_v10, answers_on, stands_before}
use Rattle.iocm_lookup.specs.Entries.{AreOwn, in_entries}
use Rattle.iocm_lookup.proofs.Walks.{own_entries}
use Rattle.iocm_device_rules.specs.OnUnits.{number_on, numbers_of, unit_numbers}
use Rattle.iocm_model.specs.Rules.FirstBreach.{Breach}
use Rattle.iocm_breaches.specs.Addresses.{is_met, meets, met_with, listed_from, HasByte, HaveBytes}
use Rattle.iocm_breaches.specs.Breaches.{breach_of, breaches_of_rule}
use Rattle.iocm_breaches.proofs.Listing.{of_more}
use Rattle.iocm_breaches.proofs.Anys.{any_or, any_false, any_alike, any_map, any_and, any_turned, one_number}

-- ---- records in order

-- a record stands before these
abbrev Before : Rec → List Rec → Type 0
Before r rs = AllByRecursion (λ o. key_cmp (key_of r) (key_of o) ≡ Less) rs

-- each stands before those behind it
abbrev Rise : List Rec → Type 0
Rise [] = Unit {0}
Rise (r ∷ rs) = Before r rs × Rise rs

before_all : (k : Key) (r : Rec) (es : List (Key × Rec)) → k ≡ key_of r → AreOwn es → T (below_all key_cmp k es)
    → Before r (in_entries es)
before_all k r [] is own below = tt
before_all k r (e ∷ es) is own below = (
  (λ i. key_cmp (sym is i) (sym own.0 i))
      ∙ less_is _ (first_holds _ _ below),
  before_all k r es is own.1 (second_holds _ _ below),
)

entries_rise : (es : List (Key × Rec)) → AreOwn es → T (is_sorted key_cmp es) → Rise (in_entries es)
entries_rise [] own up = tt
entries_rise (e ∷ es) own up =
    (before_all e.0 e.1 es own.0 own.1 (first_holds _ _ up), entries_rise es own.1 (second_holds _ _ up))

records_rise : (c : Configuration) → IsKeyed c → Rise (records_of c)
records_rise c keyed = entries_rise (entries c) (own_entries c keyed) (entries_sorted c)

-- what stands behind a record doesn't stand before it
not_before : (a b : Key) → key_cmp a b ≡ Less → is_lt (key_cmp b a) ≡ false
not_before a b less = by (key_cmp b a) refl
  where
    by : (r : Ordering) → key_cmp b a ≡ r → is_lt (key_cmp b a) ≡ false
    by Less is = let both : key_cmp a a ≡ Less = keys_total.trans a b a less is in
        let no : Equal ≡ Less = sym (tied_itself keys_total a) ∙ both in cc
    by Equal is = ap is_lt is
    by Greater is = ap is_lt is

module _ (is_so : Rec → Bool) (r : Rec) where
  abbrev so_before : Rec → Bool
  so_before o = stands_before o r && is_so o

  none_behind : (rs : List Rec) → Before r rs → list_any so_before rs ≡ false
  none_behind [] behind = refl
  none_behind (o ∷ rs) behind =
      (λ i. (not_before (key_of r) (key_of o) behind.0 i && is_so o) || none_behind rs behind.1 i)

  -- of records in order those that stand before it are those in front of it
  before_it : (done rs : List Rec) → Rise (done ++ r ∷ rs) → list_any so_before (done ++ r ∷ rs) ≡ list_any is_so done
  before_it [] rs up = λ i. (ap is_lt (tied_itself keys_total (key_of r)) i && is_so r) || none_behind rs up.0 i
  before_it (o ∷ done) rs up = λ i. (ap is_lt (at_it done rs up.0) i && is_so o) || before_it done rs up.1 i
    where
      at_it : (ds rs : List Rec) → Before o (ds ++ r ∷ rs) → key_cmp (key_of o) (key_of r) ≡ Less
      at_it [] rs all = all.0
      at_it (d ∷ ds) rs all = at_it ds rs all.1

-- ---- addresses that were met

-- what records have met
abbrev met_of : List Rec → ℕ → Bool
met_of done n = list_any (nat_eq n) (flat_map unit_numbers done)

module _ (a : ℕ) (units : List ℕ) (small : a < 256) where
  -- a device with the address on one of the units, by its numbers
  of_device : (e : DeviceRecord) → e.unit_address < 256
      → list_any (λ n. list_any (nat_eq n) (unit_numbers (device e))) (numbers_of a units)
      ≡ answers_on a units (device e)
  of_device e few =
      any_map (λ n. list_any (nat_eq n) (unit_numbers (device e))) (number_on a) units
      ∙ any_alike _ _ (λ u. any_map (nat_eq (number_on a u)) (number_on e.unit_address) e.units
      ∙ any_alike _ _ (λ v. one_number a e.unit_address u v small few) e.units) units
      ∙ any_turned (λ u v. nat_eq e.unit_address a && nat_eq v u) units e.units
      ∙ any_alike _ _ (λ v. any_and (nat_eq e.unit_address a) (nat_eq v) units) e.units
      ∙ any_and (nat_eq e.unit_address a) (λ v. list_any (nat_eq v) units) e.units

  of_none : list_any (λ n. list_any (nat_eq n) []) (numbers_of a units) ≡ false
  of_none = any_false (λ n. false) (λ n. refl) (numbers_of a units)

  of_record : (o : Rec) → HasByte o
      → list_any (λ n. list_any (nat_eq n) (unit_numbers o)) (numbers_of a units) ≡ answers_on a units o
  of_record (device e) few = of_device e few
  of_record (id x) few = of_none
  of_record (resource x) few = of_none
  of_record (image x) few = of_none
  of_record (limit x) few = of_none
  of_record (path x) few = of_none
  of_record (unit x) few = of_none
  of_record (online x) few = of_none

  of_done : (done : List Rec) → HaveBytes done
      → list_any (met_of done) (numbers_of a units) ≡ list_any (answers_on a units) done
  of_done [] all = of_none
  of_done (o ∷ done) all =
      any_alike _ _ (λ n. list_any-append (nat_eq n) (unit_numbers o) (flat_map unit_numbers done)) (numbers_of a units)
      ∙ any_or (λ n. list_any (nat_eq n) (unit_numbers o)) (met_of done) (numbers_of a units)
      ∙ (λ i. of_record o all.0 i || of_done done all.1 i)

-- ---- the walk

-- before the first record none was met
pub nothing_met : (met : BTreeSet ℕ) → IsEmpty met → (n : ℕ) → is_met met n ≡ false
nothing_met met none n = ap (list_any (is_at (nat_cmp n))) none

-- one record more
pub listed_more : (met next : ℕ → Bool) (r : Rec) (rs : List Rec) (old new : List Breach)
    → new ≡ old ++ breaches_of_rule V10 (meets met) (r ∷ [])
    → ((n : ℕ) → next n ≡ met_with r met n) → new ++ listed_from next rs ≡ old ++ listed_from met (r ∷ rs)
unfolding listed_from
listed_more met next r rs old new grown are = (λ i. grown i ++ listed_from (λ n. are n i) rs)
    ∙ append_assoc old (breaches_of_rule V10 (meets met) (r ∷ [])) (listed_from (met_with r met) rs)

-- no record more
pub listed_all : (met : ℕ → Bool) (old : List Breach) → old ≡ old ++ listed_from met []
unfolding listed_from
listed_all met old = sym (append-nil old)

-- ---- one record after the other

module _ (c : Configuration) (keyed : IsKeyed c) where
  -- where these records are in front of it, it breaks the rule exactly where it meets an address of theirs
  breaks_it : (done : List Rec) (r : Rec) (rs : List Rec) → done ++ r ∷ rs ≡ records_of c → HaveBytes done → HasByte r
      → meets (met_of done) r ≡ breaks_v10 c r
  breaks_it done (device d) rs all bytes byte = of_done d.unit_address d.units byte done bytes
      ∙ sym (before_it (answers_on d.unit_address d.units) (device d) done rs
      (subst Rise (sym all) (records_rise c keyed)))
      ∙ ap (list_any (λ o. stands_before o (device d) && answers_on d.unit_address d.units o)) all
  breaks_it done (id x) rs all bytes byte = refl
  breaks_it done (resource x) rs all bytes byte = refl
  breaks_it done (image x) rs all bytes byte = refl
  breaks_it done (limit x) rs all bytes byte = refl
  breaks_it done (path x) rs all bytes byte = refl
  breaks_it done (unit x) rs all bytes byte = refl
  breaks_it done (online x) rs all bytes byte = refl

  -- what was met, with a record more
  met_more : (done : List Rec) (r : Rec) (met : ℕ → Bool) → ((n : ℕ) → met n ≡ met_of done n) → (n : ℕ)
      → met_with r met n ≡ met_of (done ++ r ∷ []) n
  met_more [] r met are n = (λ i. list_any (nat_eq n) (unit_numbers r) || are n i)
      ∙ sym (list_any-append (nat_eq n) (unit_numbers r) [])
  met_more (o ∷ done) r met are n =
      (λ i. list_any (nat_eq n) (unit_numbers r)
      || (are n ∙ list_any-append (nat_eq n) (unit_numbers o) (flat_map unit_numbers done)) i)
      ∙ turned (list_any (nat_eq n) (unit_numbers r)) (list_any (nat_eq n) (unit_numbers o)) (met_of done n)
      ∙ ap (λ b. list_any (nat_eq n) (unit_numbers o) || b) (met_more done r (met_of done) (λ m. refl) n)
      ∙ sym (list_any-append (nat_eq n) (unit_numbers o) (flat_map unit_numbers (done ++ r ∷ [])))
    where
      turned : (a b d : Bool) → (a || (b || d)) ≡ (b || (a || d))
      turned true true d = refl
      turned true false d = refl
      turned false b d = refl

  bytes_more : (done : List Rec) (r : Rec) → HaveBytes done → HasByte r → HaveBytes (done ++ r ∷ [])
  bytes_more [] r all byte = (byte, tt)
  bytes_more (o ∷ done) r all byte = (all.0, bytes_more done r all.1 byte)

  from_there : (rs done : List Rec) (met : ℕ → Bool) → done ++ rs ≡ records_of c → ((n : ℕ) → met n ≡ met_of done n)
      → HaveBytes done → HaveBytes rs
      → listed_from met rs ≡ breaches_of_rule V10 (breaks_v10 c) rs
  unfolding listed_from
  from_there [] done met all are bytes more = refl
  from_there (r ∷ rs) done met all are bytes more =
      (λ i. map (breach_of V10) (cond (same i) (r ∷ []) []) ++ from_there rs (done ++ r ∷ []) (met_with r met)
      (append_assoc done (r ∷ []) rs ∙ all) (met_more done r met are) (bytes_more done r bytes more.0) more.1 i)
      ∙ of_more V10 (breaks_v10 c) r rs
    where
      same : meets met r ≡ breaks_v10 c r
      same = any_alike met (met_of done) are (unit_numbers r) ∙ breaks_it done r rs all bytes more.0

  pub listed_is : HaveBytes (records_of c)
      → listed_from (λ n. false) (records_of c) ≡ breaches_of_rule V10 (breaks_v10 c) (records_of c)
  listed_is bytes = from_there (records_of c) [] (λ n. false) refl (λ n. refl) tt bytes
