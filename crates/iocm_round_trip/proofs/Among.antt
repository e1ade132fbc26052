-- What is among the items of a list, of lists that are joined, and of what each item of a list
-- gives.
use Rattle.std.proofs.Common.{◌≡◌, ◌⊎◌, inl, inr, List, [], ◌∷◌, ◌++◌, refl, sym, subst}
use Rattle.std.specs.List.{flat_map}

-- it is one of the items
abbrev pub IsAmong : {X : Type 0} → X → List X → Type 0
IsAmong x [] = ⊥
IsAmong x (y ∷ ys) = (y ≡ x) ⊎ IsAmong x ys

-- an item among xs, of what x is given
pub record IsGivenBy {X Y : Type 0} (f : X → List Y) (y : Y) (xs : List X) : Type 0 where
  pub giver : X
  pub there : IsAmong giver xs
  pub given : IsAmong y (f giver)

-- ---- joined lists

pub among_first : {X : Type 0} (x : X) (xs ys : List X) → IsAmong x xs → IsAmong x (xs ++ ys)
among_first x [] ys is = absurd is
among_first x (z ∷ xs) ys (inl e) = inl e
among_first x (z ∷ xs) ys (inr is) = inr (among_first x xs ys is)

pub among_second : {X : Type 0} (x : X) (xs ys : List X) → IsAmong x ys → IsAmong x (xs ++ ys)
among_second x [] ys is = is
among_second x (z ∷ xs) ys is = inr (among_second x xs ys is)

pub among_either : {X : Type 0} (x : X) (xs ys : List X) → IsAmong x (xs ++ ys) → IsAmong x xs ⊎ IsAmong x ys
among_either x [] ys is = inr is
among_either x (z ∷ xs) ys (inl e) = inl (inl e)
among_either x (z ∷ xs) ys (inr is) = by (among_either x xs ys is)
  where
    by : IsAmong x xs ⊎ IsAmong x ys → IsAmong x (z ∷ xs) ⊎ IsAmong x ys
    by (inl first) = inl (inr first)
    by (inr second) = inr second

-- ---- what each item gives

module _ {X Y : Type 0} (f : X → List Y) (y : Y) where
  pub among_all_given : (x : X) (xs : List X) → IsAmong x xs → IsAmong y (f x) → IsAmong y (flat_map f xs)
  among_all_given x [] there given = absurd there
  among_all_given x (z ∷ xs) (inl e) given =
      among_first y (f z) (flat_map f xs) (subst (λ v. IsAmong y (f v)) (sym e) given)
  among_all_given x (z ∷ xs) (inr there) given = among_second y (f z) (flat_map f xs) (among_all_given x xs there given)

  pub given_by_one : (xs : List X) → IsAmong y (flat_map f xs) → IsGivenBy f y xs
  given_by_one [] is = absurd is
  given_by_one (z ∷ xs) is = by (among_either y (f z) (flat_map f xs) is) (given_by_one xs)
    where
      by : IsAmong y (f z) ⊎ IsAmong y (flat_map f xs) → (IsAmong y (flat_map f xs) → IsGivenBy f y xs)
          → IsGivenBy f y (z ∷ xs)
      by (inl given) later = record { giver = z; there = inl refl; given = given }
      by (inr rest) later = let one = later rest in
          record { giver = one.giver; there = inr one.there; given = one.given }
