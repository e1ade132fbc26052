-- Records that have numbers: where none of these is there twice, no two records share one.
use Rattle.std.proofs.Common.{◌≡◌, ℕ, Bool, true, false, nat_eq, ◌&&◌, ◌||◌, None, Some, List, [], ◌∷◌, ◌++◌, map, refl}
use Rattle.std.proofs.Common.{sym, ap, ◌∙◌, arith}
use Rattle.std.proofs.lemmas.Bool.{false≢true}
use Rattle.std.proofs.lemmas.Bool.Decides.{nat_tests}
use Rattle.std.specs.Cmp.{tied_itself}
use Rattle.std.specs.List.{list_any, flat_map}
use Rattle.std.specs.Ordering.{eq_by_cmp, is_lt}
use Rattle.std.specs.FinMap.{get}
use Rattle.iocm_types.specs.Key.{key_cmp}
use Rattle.iocm_types.specs.KeyOrder.{keys_total, keys_exact}
use Rattle.iocm_types.proofs.Found.{same_key, ties_itself}
use Rattle.iocm_types.proofs.Tests.{absent}
use Rattle.iocm_model.specs.Machine.Record.{Rec, key_of}
use Rattle.iocm_model.specs.Machine.Configuration.{Configuration, IsKeyed, records_of}
use Rattle.iocm_model.specs.Rules.EachRule.{has_twice, stands_before, some_before}
use Rattle.iocm_lookup.specs.First.{first_key}
use Rattle.iocm_lookup.proofs.Anys.{or_later}
use Rattle.iocm_lookup.proofs.Members.{IsMember, record_found, record_there}
use Rattle.iocm_lookup.proofs.Walks.{first_of_any}

first : (a b : Bool) → (a && b) ≡ true → a ≡ true
first true b h = refl
first false b h = absurd (false≢true h)

second : (a b : Bool) → (a && b) ≡ true → b ≡ true
second true b h = h
second false b h = absurd (false≢true h)

-- ---- a number in two lists that are joined

in_first : (n : ℕ) (xs ys : List ℕ) → list_any (nat_eq n) xs ≡ true → list_any (nat_eq n) (xs ++ ys) ≡ true
in_first n [] ys there = absurd (false≢true there)
in_first n (x ∷ xs) ys there = by (nat_eq n x) there (in_first n xs ys)
  where
    by : (b : Bool) → (b || list_any (nat_eq n) xs) ≡ true
        → (list_any (nat_eq n) xs ≡ true → list_any (nat_eq n) (xs ++ ys) ≡ true)
        → (b || list_any (nat_eq n) (xs ++ ys)) ≡ true
    by true there more = refl
    by false there more = more there

in_second : (n : ℕ) (xs ys : List ℕ) → list_any (nat_eq n) ys ≡ true → list_any (nat_eq n) (xs ++ ys) ≡ true
in_second n [] ys there = there
in_second n (x ∷ xs) ys there = or_later (nat_eq n x) _ (in_second n xs ys there)

twice_in_second : (xs ys : List ℕ) → has_twice ys ≡ true → has_twice (xs ++ ys) ≡ true
twice_in_second [] ys twice = twice
twice_in_second (x ∷ xs) ys twice = or_later (list_any (nat_eq x) (xs ++ ys)) _ (twice_in_second xs ys twice)

twice_across : (n : ℕ) (xs ys : List ℕ) → list_any (nat_eq n) xs ≡ true → list_any (nat_eq n) ys ≡ true
    → has_twice (xs ++ ys) ≡ true
twice_across n [] ys there also = absurd (false≢true there)
twice_across n (x ∷ xs) ys there also = by (nat_eq n x) refl there (λ later. twice_across n xs ys later also)
  where
    by : (b : Bool) → nat_eq n x ≡ b → (b || list_any (nat_eq n) xs) ≡ true
        → (list_any (nat_eq n) xs ≡ true → has_twice (xs ++ ys) ≡ true)
        → (list_any (nat_eq x) (xs ++ ys) || has_twice (xs ++ ys)) ≡ true
    by true is h more =
        let same : n ≡ x = grind (arith, nat_tests) in
        ap (λ b. b || has_twice (xs ++ ys))
        (ap (λ k. list_any (nat_eq k) (xs ++ ys)) (sym same) ∙ in_second n xs ys also)
    by false is h more = or_later (list_any (nat_eq x) (xs ++ ys)) _ (more h)

-- ---- a number that two items have

module _ {A : Type 0} (numbers : A → List ℕ) (n : ℕ) (test other : A → Bool)
    (apart : (x : A) → test x ≡ true → other x ≡ true → ⊥)
    (has : (x : A) → test x ≡ true → list_any (nat_eq n) (numbers x) ≡ true)
    (also : (x : A) → other x ≡ true → list_any (nat_eq n) (numbers x) ≡ true) where
  one_has : (so : A → Bool) → ((x : A) → so x ≡ true → list_any (nat_eq n) (numbers x) ≡ true) → (xs : List A)
      → list_any so xs ≡ true → list_any (nat_eq n) (flat_map numbers xs) ≡ true
  one_has so its [] any = absurd (false≢true any)
  one_has so its (x ∷ xs) any = by (so x) refl any (one_has so its xs)
    where
      by : (b : Bool) → so x ≡ b → (b || list_any so xs) ≡ true
          → (list_any so xs ≡ true → list_any (nat_eq n) (flat_map numbers xs) ≡ true)
          → list_any (nat_eq n) (numbers x ++ flat_map numbers xs) ≡ true
      by true is h more = in_first n (numbers x) (flat_map numbers xs) (its x is)
      by false is h more = in_second n (numbers x) (flat_map numbers xs) (more h)

  two_have : (xs : List A) → list_any test xs ≡ true → list_any other xs ≡ true → has_twice (flat_map numbers xs) ≡ true
  two_have [] any some = absurd (false≢true any)
  two_have (x ∷ xs) any some = by (test x) refl (other x) refl any some (two_have xs)
    where
      by : (a : Bool) → test x ≡ a → (b : Bool) → other x ≡ b → (a || list_any test xs) ≡ true
          → (b || list_any other xs) ≡ true
          → (list_any test xs ≡ true → list_any other xs ≡ true → has_twice (flat_map numbers xs) ≡ true)
          → has_twice (numbers x ++ flat_map numbers xs) ≡ true
      by true is true so h k more = absurd (apart x is so)
      by true is false so h k more =
          twice_across n (numbers x) (flat_map numbers xs) (has x is) (one_has other also xs k)
      by false is true so h k more =
          twice_across n (numbers x) (flat_map numbers xs) (also x so) (one_has test has xs h)
      by false is false so h k more = twice_in_second (numbers x) (flat_map numbers xs) (more h k)

-- ---- a number that two lists have

-- one that both have
pub record Common (xs ys : List ℕ) : Type 0 where
  pub number : ℕ
  pub its : list_any (nat_eq number) xs ≡ true
  pub others : list_any (nat_eq number) ys ≡ true

pub turned : (xs ys : List ℕ) → Common xs ys → Common ys xs
turned xs ys c = record { number = c.number; its = c.others; others = c.its }

-- two lists of what items give have one where what one of the items gives has one
pub common_of_one : {A : Type 0} (gives others : A → List ℕ) (test : A → Bool)
    → ((x : A) → test x ≡ true → Common (gives x) (others x))
    → (xs : List A) → list_any test xs ≡ true → Common (flat_map gives xs) (flat_map others xs)
common_of_one gives others test one [] any = absurd (false≢true any)
common_of_one gives others test one (x ∷ xs) any = by (test x) refl any (common_of_one gives others test one xs)
  where
    here : Common (gives x) (others x) → Common (gives x ++ flat_map gives xs) (others x ++ flat_map others xs)
    here c = record {
      number = c.number;
      its = in_first c.number (gives x) (flat_map gives xs) c.its;
      others = in_first c.number (others x) (flat_map others xs) c.others;
    }

    later : Common (flat_map gives xs) (flat_map others xs)
        → Common (gives x ++ flat_map gives xs) (others x ++ flat_map others xs)
    later c = record {
      number = c.number;
      its = in_second c.number (gives x) (flat_map gives xs) c.its;
      others = in_second c.number (others x) (flat_map others xs) c.others;
    }

    by : (b : Bool) → test x ≡ b → (b || list_any test xs) ≡ true
        → (list_any test xs ≡ true → Common (flat_map gives xs) (flat_map others xs))
        → Common (gives x ++ flat_map gives xs) (others x ++ flat_map others xs)
    by true is h more = here (one x is)
    by false is h more = later (more h)

number_there : {A : Type 0} (f : A → ℕ) (n : ℕ) (test : A → Bool) → ((x : A) → test x ≡ true → n ≡ f x) → (xs : List A)
    → list_any test xs ≡ true → list_any (nat_eq n) (map f xs) ≡ true
number_there f n test its [] any = absurd (false≢true any)
number_there f n test its (x ∷ xs) any = by (test x) refl any (number_there f n test its xs)
  where
    by : (b : Bool) → test x ≡ b → (b || list_any test xs) ≡ true
        → (list_any test xs ≡ true → list_any (nat_eq n) (map f xs) ≡ true)
        → (nat_eq n (f x) || list_any (nat_eq n) (map f xs)) ≡ true
    by true is h more = let same : n ≡ f x = its x is in let equal : nat_eq n (f x) ≡ true = grind (arith, nat_tests) in
        ap (λ b. b || list_any (nat_eq n) (map f xs)) equal
    by false is h more = or_later (nat_eq n (f x)) _ (more h)

-- two lists of items' numbers have one where two of the items have the same
pub common_of_two : {A B : Type 0} (f : A → ℕ) (g : B → ℕ) (same : A → B → Bool)
    → ((x : A) (y : B) → same x y ≡ true → f x ≡ g y)
    → (xs : List A) (ys : List B) → list_any (λ x. list_any (same x) ys) xs ≡ true → Common (map f xs) (map g ys)
common_of_two f g same equal [] ys any = absurd (false≢true any)
common_of_two f g same equal (x ∷ xs) ys any = by (list_any (same x) ys) refl any (common_of_two f g same equal xs ys)
  where
    itself : nat_eq (f x) (f x) ≡ true
    itself = grind (arith, nat_tests)

    later : Common (map f xs) (map g ys) → Common (f x ∷ map f xs) (map g ys)
    later c = record { number = c.number; its = or_later (nat_eq c.number (f x)) _ c.its; others = c.others }

    by : (b : Bool) → list_any (same x) ys ≡ b → (b || list_any (λ z. list_any (same z) ys) xs) ≡ true
        → (list_any (λ z. list_any (same z) ys) xs ≡ true → Common (map f xs) (map g ys))
        → Common (f x ∷ map f xs) (map g ys)
    by true is h more = record {
      number = f x;
      its = ap (λ b. b || list_any (nat_eq (f x)) (map f xs)) itself;
      others = number_there g (f x) (same x) (equal x) ys is;
    }
    by false is h more = later (more h)

-- ---- a number that two records have

module _ (c : Configuration) (numbers : Rec → List ℕ) (keyed : IsKeyed c)
    (none : has_twice (flat_map numbers (records_of c)) ≡ false) where
  none_share : (r other : Rec) → get c (key_of r) ≡ Some r → get c (key_of other) ≡ Some other
      → stands_before other r ≡ true → Common (numbers r) (numbers other) → ⊥
  none_share r other here there less s =
      let its = λ (x : Rec). eq_by_cmp key_cmp (key_of x) (key_of r) && list_any (nat_eq s.number) (numbers x) in
      let others = λ (x : Rec). is_lt (key_cmp (key_of x) (key_of r)) && list_any (nat_eq s.number) (numbers x) in
      false≢true (sym none ∙ two_have numbers s.number its others
      (λ x is so. not_both x (first _ _ is) (first _ _ so)) (λ x is. second _ _ is) (λ x so. second _ _ so)
      (records_of c)
      (record_there c its (key_of r) r here (λ i. ties_itself key_cmp keys_total (key_of r) i && s.its i))
      (record_there c others (key_of other) other there (λ i. less i && s.others i)))
    where
      not_both : (x : Rec) → eq_by_cmp key_cmp (key_of x) (key_of r) ≡ true
          → is_lt (key_cmp (key_of x) (key_of r)) ≡ true → ⊥
      not_both x is so = false≢true (sym (ap is_lt (tied_itself keys_total (key_of r)))
          ∙ ap (λ k. is_lt (key_cmp k (key_of r))) (sym (same_key key_cmp keys_exact (key_of x) (key_of r) is)) ∙ so)

  -- where a record breaks a rule only with one before it that shares a number, none does
  pub none_clashes : (breaks : Rec → Bool) (clashes : Rec → Rec → Bool)
      → ((r : Rec) → breaks r ≡ true → some_before c r (clashes r) ≡ true)
      → ((r other : Rec) → clashes r other ≡ true → Common (numbers r) (numbers other))
      → None ≡ first_key breaks c
  none_clashes breaks clashes with_one share = by (list_any breaks (records_of c)) refl
    where
      of_two : (r : Rec) → get c (key_of r) ≡ Some r → IsMember c (λ other. stands_before other r && clashes r other)
          → ⊥
      of_two r here other = none_share r other.member here other.there
          (first (stands_before other.member r) (clashes r other.member) other.passes)
          (share r other.member (second (stands_before other.member r) (clashes r other.member) other.passes))

      of_one : IsMember c breaks → ⊥
      of_one r = of_two r.member r.there
          (record_found c (λ other. stands_before other r.member && clashes r.member other) keyed
          (with_one r.member r.passes))

      by : (b : Bool) → list_any breaks (records_of c) ≡ b → None ≡ first_key breaks c
      by true is = absurd (of_one (record_found c breaks keyed is))
      by false is = sym (absent _ (first_of_any breaks (records_of c) ∙ is))
