-- What holds of each item of lists that are made of other lists, in whatever order they are gone
-- over.
use Rattle.std.proofs.Common.{◌≡◌, Bool, true, false, cond, List, [], ◌∷◌, ◌++◌, map, filter, refl, sym, ◌∙◌}
use Rattle.std.specs.List.{flat_map, AllByRecursion}

module _ {X : Type 0} (P : X → Type 0) where
  pub of_both : (xs ys : List X) → AllByRecursion P xs → AllByRecursion P ys → AllByRecursion P (xs ++ ys)
  of_both [] ys first second = second
  of_both (x ∷ xs) ys first second = (first.0, of_both xs ys first.1 second)

  pub of_first : (xs ys : List X) → AllByRecursion P (xs ++ ys) → AllByRecursion P xs
  of_first [] ys all = tt
  of_first (x ∷ xs) ys all = (all.0, of_first xs ys all.1)

  pub of_second : (xs ys : List X) → AllByRecursion P (xs ++ ys) → AllByRecursion P ys
  of_second [] ys all = all
  of_second (x ∷ xs) ys all = of_second xs ys all.1

  -- what is made of each item
  pub of_parts : {Y : Type 0} (f : Y → List X) (ys : List Y) → AllByRecursion (λ y. AllByRecursion P (f y)) ys
      → AllByRecursion P (flat_map f ys)
  of_parts f [] all = tt
  of_parts f (y ∷ ys) all = of_both (f y) (flat_map f ys) all.0 (of_parts f ys all.1)

  pub in_parts : {Y : Type 0} (f : Y → List X) (ys : List Y) → AllByRecursion P (flat_map f ys)
      → AllByRecursion (λ y. AllByRecursion P (f y)) ys
  in_parts f [] all = tt
  in_parts f (y ∷ ys) all = (of_first (f y) (flat_map f ys) all, in_parts f ys (of_second (f y) (flat_map f ys) all))

module _ {X : Type 0} where
  -- of each item, by its own reason
  pub weaker : (P Q : X → Type 0) → ((x : X) → P x → Q x) → (xs : List X) → AllByRecursion P xs → AllByRecursion Q xs
  weaker P Q more [] all = tt
  weaker P Q more (x ∷ xs) all = (more x all.0, weaker P Q more xs all.1)

  pub by_both : (P Q R : X → Type 0) → ((x : X) → P x → Q x → R x) → (xs : List X) → AllByRecursion P xs
      → AllByRecursion Q xs → AllByRecursion R xs
  by_both P Q R more [] first second = tt
  by_both P Q R more (x ∷ xs) first second = (more x first.0 second.0, by_both P Q R more xs first.1 second.1)

  pub of_any : (P : X → Type 0) → ((x : X) → P x) → (xs : List X) → AllByRecursion P xs
  of_any P holds [] = tt
  of_any P holds (x ∷ xs) = (holds x, of_any P holds xs)

  -- those that pass a test
  pub of_passing : (P : X → Type 0) (test : X → Bool) (xs : List X) → AllByRecursion (λ x. test x ≡ true → P x) xs
      → AllByRecursion P (filter test xs)
  of_passing P test [] all = tt
  of_passing P test (x ∷ xs) all = by (test x) refl (of_passing P test xs all.1)
    where
      by : (b : Bool) → test x ≡ b → AllByRecursion P (filter test xs)
          → AllByRecursion P (cond b (x ∷ filter test xs) (filter test xs))
      by true is rest = (all.0 is, rest)
      by false is rest = rest

  pub in_passing : (P : X → Type 0) (test : X → Bool) (xs : List X) → AllByRecursion P (filter test xs)
      → AllByRecursion (λ x. test x ≡ true → P x) xs
  in_passing P test [] all = tt
  in_passing P test (x ∷ xs) all = by (test x) refl all (in_passing P test xs)
    where
      by : (b : Bool) → test x ≡ b → AllByRecursion P (cond b (x ∷ filter test xs) (filter test xs))
          → (AllByRecursion P (filter test xs) → AllByRecursion (λ y. test y ≡ true → P y) xs)
          → (test x ≡ true → P x) × AllByRecursion (λ y. test y ≡ true → P y) xs
      by true is all more = (λ yes. all.0, more all.1)
      by false is all more = ((λ yes. let bad : true ≡ false = sym yes ∙ is in cc), more all)

  -- what is made of items that are made of others
  pub of_made : {Y : Type 0} (P : Y → Type 0) (f : X → Y) (xs : List X) → AllByRecursion (λ x. P (f x)) xs
      → AllByRecursion P (map f xs)
  of_made P f [] all = tt
  of_made P f (x ∷ xs) all = (all.0, of_made P f xs all.1)

  pub in_made : {Y : Type 0} (P : Y → Type 0) (f : X → Y) (xs : List X) → AllByRecursion P (map f xs)
      → AllByRecursion (λ x. P (f x)) xs
  in_made P f [] all = tt
  in_made P f (x ∷ xs) all = (all.0, in_made P f xs all.1)

-- all pairs, the first of each with all second ones, or the second with all first
pub turned : {X Y : Type 0} (Q : X → Y → Type 0) (xs : List X) (ys : List Y)
    → AllByRecursion (λ x. AllByRecursion (λ y. Q x y) ys) xs → AllByRecursion (λ y. AllByRecursion (λ x. Q x y) xs) ys
turned Q [] ys all = of_any (λ y. AllByRecursion (λ x. Q x y) []) (λ y. tt) ys
turned Q (x ∷ xs) ys all = by_both (λ y. Q x y) (λ y. AllByRecursion (λ z. Q z y) xs)
    (λ y. Q x y × AllByRecursion (λ z. Q z y) xs)
    (λ y here rest. (here, rest)) ys all.0 (turned Q xs ys all.1)
