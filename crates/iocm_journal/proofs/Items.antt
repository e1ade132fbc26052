-- Items by their places in a list that was lengthened, cut short, or searched.
use Rattle.std.proofs.Common.{◌≡◌, ◌⊎◌, inl, inr, ℕ, zero, suc, ◌+◌, ◌-◌, ◌<◌, ◌≤◌, ◌≢◌, Bool, true, false}
use Rattle.std.proofs.Common.{◌||◌, Some, List, [], ◌∷◌, ◌++◌, length, take, drop, set, refl, ap, ◌∙◌, arith}
use Rattle.std.specs.List.{slice_get, list_any}

-- an item of a list behind which one was put is one of the list, or that one
pub of_append : {A : Type 0} (xs : List A) (x : A) (n : ℕ) (y : A) → slice_get (xs ++ x ∷ []) n ≡ Some y
    → (slice_get xs n ≡ Some y) ⊎ ((n ≡ length xs) × (x ≡ y))
of_append [] x zero y is = inr (refl, cc)
of_append [] x (suc n) y is = cc
of_append (z ∷ xs) x zero y is = inl is
of_append (z ∷ xs) x (suc n) y is = by (of_append xs x n y is)
  where
    by : (slice_get xs n ≡ Some y) ⊎ ((n ≡ length xs) × (x ≡ y))
        → (slice_get xs n ≡ Some y) ⊎ ((suc n ≡ suc (length xs)) × (x ≡ y))
    by (inl it) = inl it
    by (inr it) = inr (ap suc it.0, it.1)

-- an item of a list is there in a longer one
pub before_others : {A : Type 0} (xs ys : List A) (n : ℕ) (x : A) → slice_get xs n ≡ Some x
    → slice_get (xs ++ ys) n ≡ Some x
before_others [] ys n x is = cc
before_others (z ∷ xs) ys zero x is = is
before_others (z ∷ xs) ys (suc n) x is = before_others xs ys n x is

-- an item that was changed is there, and each other one as it was
pub at_set : {A : Type 0} (xs : List A) (n : ℕ) (x : A) → n < length xs → slice_get (set xs n x) n ≡ Some x
at_set [] n x within = absurd (omega (arith, within))
at_set (y ∷ xs) zero x within = refl
at_set (y ∷ xs) (suc n) x within = at_set xs n x (omega (arith, within))

pub beside_set : {A : Type 0} (xs : List A) (m : ℕ) (x : A) (n : ℕ) (y : A) → n ≢ m → slice_get xs n ≡ Some y
    → slice_get (set xs m x) n ≡ Some y
beside_set [] m x n y other is = cc
beside_set (z ∷ xs) zero x zero y other is = absurd (other refl)
beside_set (z ∷ xs) zero x (suc n) y other is = is
beside_set (z ∷ xs) (suc m) x zero y other is = is
beside_set (z ∷ xs) (suc m) x (suc n) y other is = beside_set xs m x n y (λ e. other (ap suc e)) is

-- an item of a list's first ones is one of the list; and one of the list is there, if it is early enough
pub of_take : {A : Type 0} (m : ℕ) (xs : List A) (n : ℕ) (x : A) → slice_get (take m xs) n ≡ Some x
    → slice_get xs n ≡ Some x
of_take zero xs n x is = cc
of_take (suc m) [] n x is = cc
of_take (suc m) (y ∷ xs) zero x is = is
of_take (suc m) (y ∷ xs) (suc n) x is = of_take m xs n x is

pub in_take : {A : Type 0} (m : ℕ) (xs : List A) (n : ℕ) (x : A) → n < m → slice_get xs n ≡ Some x
    → slice_get (take m xs) n ≡ Some x
in_take zero xs n x early is = absurd (omega (arith, early))
in_take (suc m) [] n x early is = cc
in_take (suc m) (y ∷ xs) zero x early is = is
in_take (suc m) (y ∷ xs) (suc n) x early is = in_take m xs n x (omega (arith, early)) is

-- an item of a list is there in what is left behind the first ones, if it is late enough
pub in_drop : {A : Type 0} (m : ℕ) (xs : List A) (n : ℕ) (x : A) → m ≤ n → slice_get xs n ≡ Some x
    → slice_get (drop m xs) (n - m) ≡ Some x
in_drop zero xs n x late is = let same : n - zero ≡ n = omega arith in ap (slice_get xs) same ∙ is
in_drop (suc m) [] n x late is = cc
in_drop (suc m) (y ∷ xs) zero x late is = absurd (omega (arith, late))
in_drop (suc m) (y ∷ xs) (suc n) x late is =
    let same : suc n - suc m ≡ n - m = omega arith in
    ap (slice_get (drop m xs)) same ∙ in_drop m xs n x (omega (arith, late)) is

-- and an item of what is left is one of the list
pub of_drop : {A : Type 0} (m : ℕ) (xs : List A) (n : ℕ) (x : A) → slice_get (drop m xs) n ≡ Some x
    → slice_get xs (m + n) ≡ Some x
of_drop zero xs n x is = let same : zero + n ≡ n = omega arith in ap (slice_get xs) same ∙ is
of_drop (suc m) [] n x is = cc
of_drop (suc m) (y ∷ xs) n x is = let same : suc m + n ≡ suc (m + n) = omega arith in
    ap (slice_get (y ∷ xs)) same ∙ of_drop m xs n x is

-- none passes where each doesn't; and each doesn't where none passes
pub none_among : {A : Type 0} (p : A → Bool) (xs : List A) → ((n : ℕ) (x : A) → slice_get xs n ≡ Some x → p x ≡ false)
    → list_any p xs ≡ false
none_among p [] each = refl
none_among p (x ∷ xs) each =
    ap (λ b. b || list_any p xs) (each zero x refl) ∙ none_among p xs (λ n y is. each (suc n) y is)

pub not_among : {A : Type 0} (p : A → Bool) (xs : List A) (n : ℕ) (x : A) → list_any p xs ≡ false
    → slice_get xs n ≡ Some x
    → p x ≡ false
not_among p [] n x none is = cc
not_among p (y ∷ xs) zero x none is = let same : x ≡ y = cc in ap p same ∙ first (p y) (list_any p xs) none
  where
    first : (a b : Bool) → (a || b) ≡ false → a ≡ false
    first true b off = cc
    first false b off = refl
not_among p (y ∷ xs) (suc n) x none is = not_among p xs n x (second (p y) (list_any p xs) none) is
  where
    second : (a b : Bool) → (a || b) ≡ false → b ≡ false
    second true b off = cc
    second false b off = off

-- one does where some do
pub record Passing {A : Type 0} (p : A → Bool) (xs : List A) : Type 0 where
  pub place : ℕ
  pub item : A
  pub there : slice_get xs place ≡ Some item
  pub passes : p item ≡ true

pub one_among : {A : Type 0} (p : A → Bool) (xs : List A) → list_any p xs ≡ true → Passing p xs
one_among p [] some = cc
one_among p (x ∷ xs) some = by (p x) refl some (λ rest. one_among p xs rest)
  where
    later : Passing p xs → Passing p (x ∷ xs)
    later it = record { place = suc it.place; item = it.item; there = it.there; passes = it.passes }

    by : (b : Bool) → p x ≡ b → (b || list_any p xs) ≡ true → (list_any p xs ≡ true → Passing p xs) → Passing p (x ∷ xs)
    by true on is rest = record { place = zero; item = x; there = refl; passes = on }
    by false off is rest = later (rest is)
