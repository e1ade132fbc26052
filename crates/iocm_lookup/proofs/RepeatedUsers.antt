-- Of keys in order the first that is wanted and whose address was met or is that of a key before it.
use Rattle.std.proofs.Common.{◌≡◌, ◌⊎◌, inl, inr, ℕ, zero, suc, Bool, true, false, cond, ◌&&◌, ◌||◌, nat_eq, Option}
use Rattle.std.proofs.Common.{None, Some, List, [], ◌∷◌, get_or, replicate, refl, sym, ap, ◌∙◌, arith}
use Rattle.std.proofs.lemmas.Bool.{false≢true}
use Rattle.std.proofs.lemmas.Bool.Decides.{nat_tests}
use Rattle.std.specs.List.{list_any, AllByRecursion}
use Rattle.std.specs.List.Sorted.{IsStrictlySortedBy}
use Rattle.std.specs.Ordering.{is_lt, eq_by_cmp, ordering_reverse}
use Rattle.std.specs.declared.cmp.Ordering.{Ordering}
use Rattle.std.specs.declared.cmp.Ordering.TheVariants.{Less, Equal, Greater}
use Rattle.std.specs.Cmp.{tied_itself}
use Rattle.iocm_types.specs.declared.key.Key.{Key}
use Rattle.iocm_types.specs.Key.{key_cmp}
use Rattle.iocm_types.specs.KeyOrder.{keys_total, keys_exact}
use Rattle.iocm_types.proofs.Found.{same_key, ties_itself}
use Rattle.iocm_lookup.proofs.Anys.{or_later}
use Rattle.iocm_lookup.proofs.AtMost.{IsNotBehind, less_than_each, first_not_behind}
use Rattle.iocm_lookup.specs.Repeats.{is_met, met_with, first_repeated}

-- nothing is met at first
pub none_met : (n a : ℕ) → get_or (replicate n false) a false ≡ false
none_met zero a = refl
none_met (suc n) zero = refl
none_met (suc n) (suc a) = none_met n a

-- ---- two tests

both_first : (a b : Bool) → (a && b) ≡ true → a ≡ true
both_first true b h = refl
both_first false b h = cc

both_second : (a b : Bool) → (a && b) ≡ true → b ≡ true
both_second true b h = h
both_second false b h = cc

both_are : (a b : Bool) → a ≡ true → b ≡ true → (a && b) ≡ true
both_are a b h i = ap (λ c. c && b) h ∙ i

-- ---- keys in order

not_itself : {P : Type 0} (k : Key) → key_cmp k k ≡ Less → P
not_itself k less = let tie = tied_itself keys_total k in cc

not_both : {P : Type 0} (k q : Key) → key_cmp k q ≡ Less → key_cmp q k ≡ Less → P
not_both k q h g = let turned : Greater ≡ Less = sym (keys_total.antisymm k q ∙ ap ordering_reverse g) ∙ h in cc

pub less_key : (r : Ordering) → is_lt r ≡ true → r ≡ Less
less_key Less h = refl
less_key Equal h = cc
less_key Greater h = cc

here : (k : Key) (ks : List Key) → list_any (eq_by_cmp key_cmp k) (k ∷ ks) ≡ true
here k ks = ap (λ b. b || list_any (eq_by_cmp key_cmp k) ks) (ties_itself key_cmp keys_total k)

-- ---- the first that is repeated

module _ (address : Key → Option ℕ) (wanted : Key → Bool) where
  -- one that isn't repeated leaves the answer to the rest, with one address more that is met
  pub more_met : (met now : ℕ → Bool) (k : Key) (ks : List Key) → (is_met met (address k) && wanted k) ≡ false
      → ((b : ℕ) → now b ≡ met_with (address k) met b)
      → first_repeated address wanted now ks ≡ first_repeated address wanted met (k ∷ ks)
  more_met met now k ks fails same = ap (λ (m : ℕ → Bool). first_repeated address wanted m ks) (λ i b. same b i)
      ∙ ap (λ b. cond b (Some k) (first_repeated address wanted (met_with (address k) met) ks)) (sym fails)

  -- a key before another in a list, with this address
  pub record IsBefore (ks : List Key) (k : Key) (at : ℕ) : Type 0 where
    pub other : Key
    pub there : list_any (eq_by_cmp key_cmp other) ks ≡ true
    pub has : address other ≡ Some at
    pub less : key_cmp other k ≡ Less

  -- a key that is wanted and whose address was met or is that of a key before it
  pub record IsRepeated (met : ℕ → Bool) (ks : List Key) (k : Key) : Type 0 where
    pub there : list_any (eq_by_cmp key_cmp k) ks ≡ true
    pub so : wanted k ≡ true
    pub at : ℕ
    pub has : address k ≡ Some at
    pub before : (met at ≡ true) ⊎ IsBefore ks k at

  at_once : (met : ℕ → Bool) (q k : Key) (qs : List Key) (o : Option ℕ) → address q ≡ o → is_met met o ≡ true
      → wanted q ≡ true → q ≡ k → IsRepeated met (q ∷ qs) k
  at_once met q k qs None is m so same = cc
  at_once met q k qs (Some a) is m so same = record {
    there = ap (λ b. b || list_any (eq_by_cmp key_cmp k) qs)
        (ap (eq_by_cmp key_cmp k) same ∙ ties_itself key_cmp keys_total k);
    so = ap wanted (sym same) ∙ so;
    at = a;
    has = ap address (sym same) ∙ is;
    before = inl m;
  }

  met_before : (met : ℕ → Bool) (q k : Key) (qs : List Key) (o : Option ℕ) → address q ≡ o → (at : ℕ)
      → AllByRecursion (λ p. key_cmp q p ≡ Less) qs
      → list_any (eq_by_cmp key_cmp k) qs ≡ true → met_with o met at ≡ true → (met at ≡ true) ⊎ IsBefore (q ∷ qs) k at
  met_before met q k qs None is at all there m = inl m
  met_before met q k qs (Some a) is at all there m = by (nat_eq at a) refl m
    where
      by : (b : Bool) → nat_eq at a ≡ b → (b || met at) ≡ true → (met at ≡ true) ⊎ IsBefore (q ∷ qs) k at
      by true e h = let same : a ≡ at = grind (arith, nat_tests) in
          inr (record { other = q; there = here q qs; has = is ∙ ap Some same; less = less_than_each q qs all k there })
      by false e h = inl h

  later_repeated : (met : ℕ → Bool) (q k : Key) (qs : List Key) → AllByRecursion (λ p. key_cmp q p ≡ Less) qs
      → IsRepeated (met_with (address q) met) qs k → IsRepeated met (q ∷ qs) k
  later_repeated met q k qs all c = record {
    there = or_later (eq_by_cmp key_cmp k q) _ c.there;
    so = c.so;
    at = c.at;
    has = c.has;
    before = by c.before;
  }
    where
      by : (met_with (address q) met c.at ≡ true) ⊎ IsBefore qs k c.at → (met c.at ≡ true) ⊎ IsBefore (q ∷ qs) k c.at
      by (inl m) = met_before met q k qs (address q) refl c.at all c.there m
      by (inr b) = inr (record
          { other = b.other; there = or_later (eq_by_cmp key_cmp b.other q) _ b.there; has = b.has; less = b.less })

  -- the first is one
  pub first_is_repeated : (met : ℕ → Bool) (ks : List Key) → IsStrictlySortedBy key_cmp ks → (k : Key)
      → first_repeated address wanted met ks ≡ Some k → IsRepeated met ks k
  unfolding IsStrictlySortedBy
  first_is_repeated met [] up k is = cc
  first_is_repeated met (q ∷ qs) up k is =
      by (is_met met (address q) && wanted q) refl is (first_is_repeated (met_with (address q) met) qs up.1 k)
    where
      by : (b : Bool) → (is_met met (address q) && wanted q) ≡ b
          → cond b (Some q) (first_repeated address wanted (met_with (address q) met) qs) ≡ Some k
          → (first_repeated address wanted (met_with (address q) met) qs ≡ Some k
          → IsRepeated (met_with (address q) met) qs k) → IsRepeated met (q ∷ qs) k
      by true m h more = let same : q ≡ k = cc in
          at_once met q k qs (address q) refl (both_first (is_met met (address q)) (wanted q) m)
          (both_second (is_met met (address q)) (wanted q) m) same
      by false m h more = later_repeated met q k qs up.0 (more h)

  -- the first, not behind a key
  pub record IsFirstBy (met : ℕ → Bool) (ks : List Key) (k : Key) : Type 0 where
    pub found : Key
    pub is : first_repeated address wanted met ks ≡ Some found
    pub not_behind : IsNotBehind found k

  met_still : (o : Option ℕ) (met : ℕ → Bool) (at : ℕ) → met at ≡ true → met_with o met at ≡ true
  met_still None met at m = m
  met_still (Some a) met at m = or_later (nat_eq at a) _ m

  met_now : (o : Option ℕ) (met : ℕ → Bool) (at : ℕ) → o ≡ Some at → met_with o met at ≡ true
  met_now None met at is = cc
  met_now (Some a) met at is =
      let same : a ≡ at = cc in
      let e : nat_eq at a ≡ true = grind (arith, nat_tests) in
      ap (λ b. b || met at) e

  -- one behind a key that is none
  repeated_behind : (met : ℕ → Bool) (q k : Key) (qs : List Key) → (is_met met (address q) && wanted q) ≡ false
      → AllByRecursion (λ p. key_cmp q p ≡ Less) qs
      → IsRepeated met (q ∷ qs) k → IsRepeated (met_with (address q) met) qs k
  repeated_behind met q k qs fresh all c = record {
    there = there_by (eq_by_cmp key_cmp k q) refl c.there;
    so = c.so;
    at = c.at;
    has = c.has;
    before = before_by c.before;
  }
    where
      other_than : (b : IsBefore (q ∷ qs) k c.at) → k ≡ q → (e : Bool) → eq_by_cmp key_cmp b.other q ≡ e
          → (e || list_any (eq_by_cmp key_cmp b.other) qs) ≡ true → ⊥
      other_than b same true e h =
          not_itself q (ap (λ (p : Key). key_cmp p q) (sym (same_key key_cmp keys_exact b.other q e))
          ∙ ap (key_cmp b.other) (sym same) ∙ b.less)
      other_than b same false e h =
          not_both q b.other (less_than_each q qs all b.other h) (ap (key_cmp b.other) (sym same) ∙ b.less)

      not_first : k ≡ q → (met c.at ≡ true) ⊎ IsBefore (q ∷ qs) k c.at → ⊥
      not_first same (inl m) = false≢true (sym fresh
          ∙ both_are (is_met met (address q)) (wanted q) (ap (is_met met) (ap address (sym same) ∙ c.has) ∙ m)
          (ap wanted (sym same) ∙ c.so))
      not_first same (inr b) = other_than b same (eq_by_cmp key_cmp b.other q) refl b.there

      there_by : (e : Bool) → eq_by_cmp key_cmp k q ≡ e → (e || list_any (eq_by_cmp key_cmp k) qs) ≡ true
          → list_any (eq_by_cmp key_cmp k) qs ≡ true
      there_by true e h = absurd (not_first (same_key key_cmp keys_exact k q e) c.before)
      there_by false e h = h

      other_by : (b : IsBefore (q ∷ qs) k c.at) → (e : Bool) → eq_by_cmp key_cmp b.other q ≡ e
          → (e || list_any (eq_by_cmp key_cmp b.other) qs) ≡ true
          → (met_with (address q) met c.at ≡ true) ⊎ IsBefore qs k c.at
      other_by b true e h = inl
          (met_now (address q) met c.at (ap address (sym (same_key key_cmp keys_exact b.other q e)) ∙ b.has))
      other_by b false e h = inr (record { other = b.other; there = h; has = b.has; less = b.less })

      before_by : (met c.at ≡ true) ⊎ IsBefore (q ∷ qs) k c.at
          → (met_with (address q) met c.at ≡ true) ⊎ IsBefore qs k c.at
      before_by (inl m) = inl (met_still (address q) met c.at m)
      before_by (inr b) = other_by b (eq_by_cmp key_cmp b.other q) refl b.there

  -- where a key is one, the first is not behind it
  pub repeated_has_first : (met : ℕ → Bool) (ks : List Key) → IsStrictlySortedBy key_cmp ks → (k : Key)
      → IsRepeated met ks k → IsFirstBy met ks k
  unfolding IsStrictlySortedBy
  repeated_has_first met [] up k c = absurd (false≢true c.there)
  repeated_has_first met (q ∷ qs) up k c =
      by (is_met met (address q) && wanted q) refl (repeated_has_first (met_with (address q) met) qs up.1 k)
    where
      by : (b : Bool) → (is_met met (address q) && wanted q) ≡ b
          → (IsRepeated (met_with (address q) met) qs k → IsFirstBy (met_with (address q) met) qs k)
          → IsFirstBy met (q ∷ qs) k
      by true m more = record {
        found = q;
        is = ap (λ b. cond b (Some q) (first_repeated address wanted (met_with (address q) met) qs)) m;
        not_behind = first_not_behind q k qs up.0 c.there;
      }
      by false m more = let f = more (repeated_behind met q k qs m up.0 c) in record {
        found = f.found;
        is = ap (λ b. cond b (Some q) (first_repeated address wanted (met_with (address q) met) qs)) m ∙ f.is;
        not_behind = f.not_behind;
      }
