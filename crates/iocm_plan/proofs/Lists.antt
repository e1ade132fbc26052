-- Items of a list that pass a test, and that are in the list.
use Rattle.std.proofs.Common.{◌≡◌, Bool, true, false, ◌&&◌, ◌||◌, List, [], ◌∷◌, Option, Some, None, refl, ap, ◌∙◌}
use Rattle.std.specs.List.{list_any}
use Rattle.std.specs.Option.{option_or}
use Rattle.std.specs.Cmp.Derive.{both_true}
use Rattle.iocm_plan.specs.Routes.{first_of}

-- one of two holds
or_left : (a b : Bool) → a ≡ true → (a || b) ≡ true
or_left a b h = ap (λ x. x || b) h

or_right : (a b : Bool) → b ≡ true → (a || b) ≡ true
or_right true b h = refl
or_right false b h = h

either : {C : Type 0} → (a b : Bool) → (a || b) ≡ true → (a ≡ true → C) → (b ≡ true → C) → C
either true b h f g = f refl
either false b h f g = g h

-- what passes one test passes another
pub any_passes : {A : Type 0} (f g : A → Bool) → ((x : A) → f x ≡ true → g x ≡ true) → (xs : List A)
    → list_any f xs ≡ true → list_any g xs ≡ true
any_passes f g give [] h = h
any_passes f g give (x ∷ xs) h = either (f x) (list_any f xs) h
    (λ one. or_left (g x) (list_any g xs) (give x one))
    (λ rest. or_right (g x) (list_any g xs) (any_passes f g give xs rest))

-- an item that passes is related to one of the list
module _ {A : Type 0} (near : A → A → Bool) (own : (x : A) → near x x ≡ true) (test : A → Bool) where
  among : (all xs : List A) → ((x : A) → list_any (near x) xs ≡ true → list_any (near x) all ≡ true)
      → list_any test xs ≡ true → list_any (λ x. test x && list_any (near x) all) xs ≡ true
  among all [] sub h = h
  among all (x ∷ xs) sub h = either (test x) (list_any test xs) h
      (λ one. or_left (test x && list_any (near x) all) (list_any (λ y. test y && list_any (near y) all) xs)
      (both_true one (sub x (or_left (near x x) (list_any (near x) xs) (own x)))))
      (λ rest. or_right (test x && list_any (near x) all) (list_any (λ y. test y && list_any (near y) all) xs)
      (among all xs (λ y held. sub y (or_right (near y x) (list_any (near y) xs) held)) rest))

  pub passes_near : (xs : List A) → list_any test xs ≡ true → list_any (λ x. test x && list_any (near x) xs) xs ≡ true
  passes_near xs h = among xs xs (λ x held. held) h

-- what is given first passes, if all that is given does
module _ {A B : Type 0} (give : A → Option B) (test : B → Bool)
    (passes : (x : A) (y : B) → give x ≡ Some y → test y ≡ true) where
  pub first_passes : (xs : List A) (y : B) → first_of give xs ≡ Some y → test y ≡ true
  first_passes [] y h = cc
  first_passes (x ∷ xs) y h = by (give x) refl (first_passes xs y) h
    where
      by : (o : Option B) → give x ≡ o → (first_of give xs ≡ Some y → test y ≡ true)
          → option_or o (first_of give xs) ≡ Some y → test y ≡ true
      by None is rest at = rest at
      by (Some z) is rest at = passes x y (is ∙ at)
