-- Numbers that are met, of one list and of two.
use Rattle.std.proofs.Common.{◌≡◌, ℕ, ◌+◌, ◌*◌, ◌<◌, ◌&&◌, ◌||◌, nat_eq, Bool, true, false, List, [], ◌∷◌, map, refl}
use Rattle.std.proofs.Common.{sym, ap, ◌∙◌, arith}
use Rattle.std.proofs.lemmas.Bool.Decides.{nat_tests}
use Rattle.std.specs.List.{list_any}
use Rattle.iocm_device_rules.specs.OnUnits.{number_on}

-- ---- tests of lists

-- the four answers of two tests, taken by item and by list
crossed : (a b c d : Bool) → ((a || b) || (c || d)) ≡ ((a || c) || (b || d))
crossed true b true d = refl
crossed true true false d = refl
crossed true false false d = refl
crossed false true true d = refl
crossed false true false true = refl
crossed false true false false = refl
crossed false false true d = refl
crossed false false false d = refl

both_false : (a b : Bool) → a ≡ false → b ≡ false → (a || b) ≡ false
both_false a b is more = (λ i. is i || b) ∙ more

module _ {A : Type 0} where
  -- either of two tests
  pub any_or : (f g : A → Bool) (xs : List A) → list_any (λ x. f x || g x) xs ≡ (list_any f xs || list_any g xs)
  any_or f g [] = refl
  any_or f g (x ∷ xs) = ap (λ b. (f x || g x) || b) (any_or f g xs)
      ∙ crossed (f x) (g x) (list_any f xs) (list_any g xs)

  -- a test that none passes
  pub any_false : (f : A → Bool) → ((x : A) → f x ≡ false) → (xs : List A) → list_any f xs ≡ false
  any_false f none [] = refl
  any_false f none (x ∷ xs) = both_false (f x) (list_any f xs) (none x) (any_false f none xs)

  -- tests that answer alike
  pub any_alike : (f g : A → Bool) → ((x : A) → f x ≡ g x) → (xs : List A) → list_any f xs ≡ list_any g xs
  any_alike f g same xs = λ i. list_any (λ x. same x i) xs

  -- a test of what items give
  pub any_map : {B : Type 0} (f : B → Bool) (g : A → B) (xs : List A)
      → list_any f (map g xs) ≡ list_any (λ x. f (g x)) xs
  any_map f g [] = refl
  any_map f g (x ∷ xs) = ap (λ b. f (g x) || b) (any_map f g xs)

  -- a test that doesn't depend on the item
  pub any_and : (b : Bool) (f : A → Bool) (xs : List A) → list_any (λ x. b && f x) xs ≡ (b && list_any f xs)
  any_and true f xs = refl
  any_and false f xs = any_false (λ x. false) (λ x. refl) xs

-- items of two lists, in either order
pub any_turned : {A B : Type 0} (r : A → B → Bool) (xs : List A) (ys : List B)
    → list_any (λ x. list_any (r x) ys) xs ≡ list_any (λ y. list_any (λ x. r x y) xs) ys
any_turned r [] ys = sym (any_false (λ y. false) (λ y. refl) ys)
any_turned r (x ∷ xs) ys =
    ap (λ b. list_any (r x) ys || b) (any_turned r xs ys) ∙ sym (any_or (r x) (λ y. list_any (λ z. r z y) xs) ys)

-- ---- numbers of addresses on units

same_both : (a b c d : Bool) → (a ≡ true → (c ≡ true) × (d ≡ true)) → (c ≡ true → d ≡ true → a ≡ true) → a ≡ (c && d)
same_both true b c d there back = let both = there refl in sym ((λ i. both.0 i && d) ∙ both.1)
same_both false b true true there back = back refl refl
same_both false b true false there back = refl
same_both false b false d there back = refl

-- one number is one address on one unit
pub one_number : (a b u v : ℕ) → a < 256 → b < 256 → nat_eq (number_on a u) (number_on b v) ≡ (nat_eq b a && nat_eq v u)
one_number a b u v few less = same_both (nat_eq (number_on a u) (number_on b v)) true (nat_eq b a) (nat_eq v u)
    (λ is. (of_address is, of_unit is)) back
  where
    numbers : nat_eq (u * 256 + a) (v * 256 + b) ≡ true → u * 256 + a ≡ v * 256 + b
    numbers is = grind (arith, nat_tests)

    tests : (n m : ℕ) → n ≡ m → nat_eq n m ≡ true
    tests n m is = grind (arith, nat_tests)

    of_tests : (n m : ℕ) → nat_eq n m ≡ true → n ≡ m
    of_tests n m is = grind (arith, nat_tests)

    of_address : nat_eq (number_on a u) (number_on b v) ≡ true → nat_eq b a ≡ true
    of_address is = let same = numbers is in tests b a (omega arith)

    of_unit : nat_eq (number_on a u) (number_on b v) ≡ true → nat_eq v u ≡ true
    of_unit is = let same = numbers is in tests v u (omega arith)

    back : nat_eq b a ≡ true → nat_eq v u ≡ true → nat_eq (number_on a u) (number_on b v) ≡ true
    back its one = let address = of_tests b a its in let unit = of_tests v u one in
        tests (u * 256 + a) (v * 256 + b) (omega arith)
