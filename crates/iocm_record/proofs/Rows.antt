-- A place in one list and another behind it.
use Rattle.std.proofs.Common.{◌≡◌, ℕ, suc, zero, ◌-◌, ◌<◌, ◌≤◌, List, [], ◌∷◌, ◌++◌, length, map, slice_get, refl, ap}
use Rattle.std.proofs.Common.{◌∙◌, arith}

-- a place in the first list
pub row_front : {A B : Type 0} (f : A → B) (xs : List A) (ys : List B) (i : ℕ) → i < length xs
    → slice_get (map f xs ++ ys) i ≡ slice_get (map f xs) i
row_front f [] ys i within = absurd (omega arith)
row_front f (x ∷ xs) ys zero within = refl
row_front f (x ∷ xs) ys (suc i) within = row_front f xs ys i (omega arith)

-- a place behind it
pub row_back : {A B : Type 0} (f : A → B) (xs : List A) (ys : List B) (i : ℕ) → length xs ≤ i
    → slice_get (map f xs ++ ys) i ≡ slice_get ys (i - length xs)
row_back f [] ys i past = ap (slice_get ys) (omega arith)
row_back f (x ∷ xs) ys zero past = absurd (omega arith)
row_back f (x ∷ xs) ys (suc i) past = row_back f xs ys i (omega arith) ∙ ap (slice_get ys) (omega arith)

pub ruleset rows = (row_front, row_back)
