-- Changes of one item of a list, and lists turned round.
use Rattle.std.proofs.Common.{◌≡◌, ◌≢◌, ◌⊎◌, inl, inr, ℕ, zero, suc, ◌<◌, Bool, true, false, ◌||◌, eqb, Some, List}
use Rattle.std.proofs.Common.{[], ◌∷◌, ◌++◌, length, map, reverse, refl, ap, ◌∙◌, arith}
use Rattle.std.proofs.lemmas.Bool.{eq-eqb}
use Rattle.std.proofs.lemmas.List.{reverse-append}
use Rattle.std.proofs.Math.ListN.{set}
use Rattle.std.specs.List.{slice_get, AllByRecursion}
use Rattle.iocm_history.specs.Journal.{is_in}

-- what is within a list is there
pub item_there : {A : Type 0} (xs : List A) (n : ℕ) → n < length xs → (x : A) × (slice_get xs n ≡ Some x)
item_there [] n within = absurd (omega arith)
item_there (x ∷ xs) zero within = (x, refl)
item_there (x ∷ xs) (suc n) within = item_there xs n (omega arith)

-- one that is put behind a list is there, at the place that the list's length tells
pub at_end : {A : Type 0} (xs : List A) (x : A) → slice_get (xs ++ x ∷ []) (length xs) ≡ Some x
at_end [] x = refl
at_end (y ∷ xs) x = at_end xs x

-- an item of a list in which one was changed is the one, or another as it was
pub of_set : {A : Type 0} (xs : List A) (i : ℕ) (x : A) (n : ℕ) (y : A) → slice_get (set xs i x) n ≡ Some y
    → ((n ≢ i) × (slice_get xs n ≡ Some y)) ⊎ ((n ≡ i) × (x ≡ y))
of_set [] i x n y is = cc
of_set (z ∷ xs) zero x zero y is = inr (refl, cc)
of_set (z ∷ xs) zero x (suc n) y is = inl ((λ e. cc), is)
of_set (z ∷ xs) (suc i) x zero y is = inl ((λ e. cc), is)
of_set (z ∷ xs) (suc i) x (suc n) y is = by (of_set xs i x n y is)
  where
    by : ((n ≢ i) × (slice_get xs n ≡ Some y)) ⊎ ((n ≡ i) × (x ≡ y))
        → ((suc n ≢ suc i) × (slice_get xs n ≡ Some y)) ⊎ ((suc n ≡ suc i) × (x ≡ y))
    by (inl it) = inl ((λ e. it.0 (omega (arith, e))), it.1)
    by (inr it) = inr (ap suc it.0, it.1)

-- the same numbers are among a list turned round
pub in_append : (k : ℕ) (ms ns : List ℕ) → is_in k (ms ++ ns) ≡ (is_in k ms || is_in k ns)
in_append k [] ns = refl
in_append k (m ∷ ms) ns = by (eqb k m) (in_append k ms ns)
  where
    by : (b : Bool) → is_in k (ms ++ ns) ≡ (is_in k ms || is_in k ns)
        → (b || is_in k (ms ++ ns)) ≡ ((b || is_in k ms) || is_in k ns)
    by true rest = refl
    by false rest = rest

or_comm : (a b : Bool) → (a || b) ≡ (b || a)
or_comm true true = refl
or_comm true false = refl
or_comm false true = refl
or_comm false false = refl

or_none : (a : Bool) → (a || false) ≡ a
or_none true = refl
or_none false = refl

pub in_reverse : (k : ℕ) (ns : List ℕ) → is_in k (reverse ns) ≡ is_in k ns
in_reverse k [] = refl
in_reverse k (n ∷ ns) =
    ap (is_in k) (reverse-append (n ∷ []) ns) ∙ in_append k (reverse ns) (n ∷ [])
    ∙ (λ i. in_reverse k ns i || (or_none (eqb k n) i)) ∙ or_comm (is_in k ns) (eqb k n)

-- what holds of each number among a list holds of each item by its number
module _ {A : Type 0} (number : A → ℕ) (P : ℕ → Type 0) where
  pub all_by_number : (us : List A) → ((m : ℕ) → is_in m (map number us) ≡ true → P m)
      → AllByRecursion (λ u. P (number u)) us
  all_by_number [] each = tt
  all_by_number (u ∷ us) each = (
    each (number u) (first (number u) (map number us)),
    all_by_number us
        (λ m among. each m (later m (number u) (map number us) among)),
  )
    where
      first : (m : ℕ) (ms : List ℕ) → is_in m (m ∷ ms) ≡ true
      first m ms = rw (eq-eqb m m refl) refl

      later : (m k : ℕ) (ms : List ℕ) → is_in m ms ≡ true → is_in m (k ∷ ms) ≡ true
      later m k ms among = by (eqb m k)
        where
          by : (b : Bool) → (b || is_in m ms) ≡ true
          by true = refl
          by false = among

-- of two lists joined both, and one more
pub all_append : {A : Type 0} (P : A → Type 0) (xs ys : List A) → AllByRecursion P xs → AllByRecursion P ys
    → AllByRecursion P (xs ++ ys)
all_append P [] ys p q = q
all_append P (x ∷ xs) ys p q = (p.0, all_append P xs ys p.1 q)

pub all_first : {A : Type 0} (P : A → Type 0) (xs ys : List A) → AllByRecursion P (xs ++ ys) → AllByRecursion P xs
all_first P [] ys p = tt
all_first P (x ∷ xs) ys p = (p.0, all_first P xs ys p.1)

pub all_second : {A : Type 0} (P : A → Type 0) (xs ys : List A) → AllByRecursion P (xs ++ ys) → AllByRecursion P ys
all_second P [] ys p = p
all_second P (x ∷ xs) ys p = all_second P xs ys p.1
