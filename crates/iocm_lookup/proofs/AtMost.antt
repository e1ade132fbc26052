-- Keys that are not behind another, and the least of what some give.
use Rattle.std.proofs.Common.{◌≡◌, ◌⊎◌, inl, inr, Bool, true, false, cond, ◌||◌, Option, None, Some, List, [], ◌∷◌}
use Rattle.std.proofs.Common.{refl, sym, ap, subst, ◌∙◌}
use Rattle.std.proofs.lemmas.Bool.{false≢true}
use Rattle.std.specs.List.{list_any, AllByRecursion}
use Rattle.std.specs.Ordering.{is_lt, eq_by_cmp, ordering_reverse}
use Rattle.std.specs.declared.cmp.Ordering.{Ordering}
use Rattle.std.specs.declared.cmp.Ordering.TheVariants.{Less, Equal, Greater}
use Rattle.std.specs.Cmp.{tied_itself}
use Rattle.iocm_types.specs.declared.key.Key.{Key}
use Rattle.iocm_types.specs.Key.{key_cmp}
use Rattle.iocm_types.specs.KeyOrder.{keys_total, keys_exact}
use Rattle.iocm_types.proofs.Found.{same_key}
use Rattle.iocm_lookup.specs.Among.{lesser, least_of}

-- a key is not behind another
abbrev pub IsNotBehind : Key → Key → Type 0
IsNotBehind f k = is_lt (key_cmp k f) ≡ false

-- what is less than all of some keys is less than each
pub less_than_each : (k : Key) (qs : List Key) → AllByRecursion (λ q. key_cmp k q ≡ Less) qs → (q : Key)
    → list_any (eq_by_cmp key_cmp q) qs ≡ true → key_cmp k q ≡ Less
less_than_each k [] all q there = cc
less_than_each k (p ∷ qs) all q there = by (eq_by_cmp key_cmp q p) refl there (less_than_each k qs all.1 q)
  where
    by : (b : Bool) → eq_by_cmp key_cmp q p ≡ b → (b || list_any (eq_by_cmp key_cmp q) qs) ≡ true
        → (list_any (eq_by_cmp key_cmp q) qs ≡ true → key_cmp k q ≡ Less) → key_cmp k q ≡ Less
    by true is h more = ap (key_cmp k) (same_key key_cmp keys_exact q p is) ∙ all.0
    by false is h more = more h

-- of keys in order the first is not behind another
pub first_not_behind : (q k : Key) (qs : List Key) → AllByRecursion (λ p. key_cmp q p ≡ Less) qs
    → list_any (eq_by_cmp key_cmp k) (q ∷ qs) ≡ true → IsNotBehind q k
first_not_behind q k qs all there = by (eq_by_cmp key_cmp k q) refl there
  where
    by : (b : Bool) → eq_by_cmp key_cmp k q ≡ b → (b || list_any (eq_by_cmp key_cmp k) qs) ≡ true
        → is_lt (key_cmp k q) ≡ false
    by true e h = ap (λ (p : Key). is_lt (key_cmp k p)) (sym (same_key key_cmp keys_exact k q e))
        ∙ ap is_lt (tied_itself keys_total k)
    by false e h = ap is_lt (keys_total.antisymm k q ∙ ap ordering_reverse (less_than_each q qs all k h))

-- ---- the least

-- a key is there that is not behind another
pub record IsAtMost (o : Option Key) (k : Key) : Type 0 where
  pub found : Key
  pub is : o ≡ Some found
  pub not_behind : IsNotBehind found k

not_behind_either : (f g k : Key) → IsNotBehind f g → IsNotBehind g k → IsNotBehind f k
not_behind_either f g k h i = by (key_cmp k f) refl
  where
    at : (r : Ordering) → key_cmp f g ≡ r → key_cmp k f ≡ Less → is_lt (key_cmp k g) ≡ true
    at Less e less = ap is_lt (keys_total.trans k f g less e)
    at Equal e less = ap (λ (p : Key). is_lt (key_cmp k p)) (sym (keys_exact f g e)) ∙ ap is_lt less
    at Greater e less = let turned : is_lt (key_cmp g f) ≡ true =
        ap is_lt (keys_total.antisymm g f ∙ ap ordering_reverse e) in absurd (false≢true (sym h ∙ turned))

    by : (r : Ordering) → key_cmp k f ≡ r → is_lt (key_cmp k f) ≡ false
    by Less e = absurd (false≢true (sym i ∙ at (key_cmp f g) refl e))
    by Equal e = ap is_lt e
    by Greater e = ap is_lt e

-- of two keys the lesser is not behind either
lesser_of_two : (a b : Key) (t : Bool) → is_lt (key_cmp b a) ≡ t → (k : Key) → (IsNotBehind a k ⊎ IsNotBehind b k)
    → IsAtMost (cond t (Some b) (Some a)) k
lesser_of_two a b true e k (inl h) =
    record { found = b; is = refl; not_behind = not_behind_either b a k (turned (key_cmp b a) refl e) h }
  where
    turned : (r : Ordering) → key_cmp b a ≡ r → is_lt r ≡ true → is_lt (key_cmp a b) ≡ false
    turned Less is l = ap is_lt (keys_total.antisymm a b ∙ ap ordering_reverse is)
    turned Equal is l = cc
    turned Greater is l = cc
lesser_of_two a b true e k (inr h) = record { found = b; is = refl; not_behind = h }
lesser_of_two a b false e k (inl h) = record { found = a; is = refl; not_behind = h }
lesser_of_two a b false e k (inr h) = record { found = a; is = refl; not_behind = not_behind_either a b k e h }

first_kept : (o p : Option Key) (k : Key) → IsAtMost o k → IsAtMost (lesser o p) k
first_kept None p k m = let no = m.is in cc
first_kept (Some a) None k m = m
first_kept (Some a) (Some b) k m =
    let same : a ≡ m.found = let e = m.is in cc in
    lesser_of_two a b (is_lt (key_cmp b a)) refl k (inl (subst (λ (q : Key). IsNotBehind q k) (sym same) m.not_behind))

second_kept : (o p : Option Key) (k : Key) → IsAtMost p k → IsAtMost (lesser o p) k
second_kept None p k m = m
second_kept (Some a) None k m = let no = m.is in cc
second_kept (Some a) (Some b) k m =
    let same : b ≡ m.found = let e = m.is in cc in
    lesser_of_two a b (is_lt (key_cmp b a)) refl k (inr (subst (λ (q : Key). IsNotBehind q k) (sym same) m.not_behind))

module _ {A : Type 0} (gives : A → Option Key) where
  least_kept : (rs : List A) (o : Option Key) (k : Key) → IsAtMost o k → IsAtMost (least_of gives o rs) k
  least_kept [] o k m = m
  least_kept (r ∷ rs) o k m = least_kept rs (lesser o (gives r)) k (first_kept o (gives r) k m)

  -- where one gives a key that is not behind another, the least is there and not behind it
  pub least_at_most : (test : A → Bool) (k : Key) → ((r : A) → test r ≡ true → IsAtMost (gives r) k)
      → (rs : List A) (o : Option Key)
      → list_any test rs ≡ true → IsAtMost (least_of gives o rs) k
  least_at_most test k given [] o any = cc
  least_at_most test k given (r ∷ rs) o any = by (test r) refl any (least_at_most test k given rs (lesser o (gives r)))
    where
      by : (b : Bool) → test r ≡ b → (b || list_any test rs) ≡ true
          → (list_any test rs ≡ true → IsAtMost (least_of gives (lesser o (gives r)) rs) k)
          → IsAtMost (least_of gives (lesser o (gives r)) rs) k
      by true is h more = least_kept rs (lesser o (gives r)) k (second_kept o (gives r) k (given r is))
      by false is h more = more h

  -- one of some, that gives a key
  pub record IsGiver (P : A → Type 0) (k : Key) : Type 0 where
    pub giver : A
    pub holds : P giver
    pub given : gives giver ≡ Some k

  lesser_is_one : (o p : Option Key) (k : Key) → lesser o p ≡ Some k → (o ≡ Some k) ⊎ (p ≡ Some k)
  lesser_is_one None p k is = inr is
  lesser_is_one (Some a) None k is = inl is
  lesser_is_one (Some a) (Some b) k is = by (is_lt (key_cmp b a)) is
    where
      by : (t : Bool) → cond t (Some b) (Some a) ≡ Some k → (Some a ≡ Some k) ⊎ (Some b ≡ Some k)
      by true is = inr is
      by false is = inl is

  -- the least is what was there first, or what one gives
  pub least_is_given : (P : A → Type 0) (rs : List A) → AllByRecursion P rs → (o : Option Key) (k : Key)
      → least_of gives o rs ≡ Some k → (o ≡ Some k) ⊎ IsGiver P k
  least_is_given P [] all o k is = inl is
  least_is_given P (r ∷ rs) all o k is = by (least_is_given P rs all.1 (lesser o (gives r)) k is)
    where
      one : (o ≡ Some k) ⊎ (gives r ≡ Some k) → (o ≡ Some k) ⊎ IsGiver P k
      one (inl h) = inl h
      one (inr h) = inr (record { giver = r; holds = all.0; given = h })

      by : (lesser o (gives r) ≡ Some k) ⊎ IsGiver P k → (o ≡ Some k) ⊎ IsGiver P k
      by (inl h) = one (lesser_is_one o (gives r) k h)
      by (inr g) = inr g
