-- Lists of names that are compared as equal are the same.
use Rattle.std.proofs.Common.{◌≡◌, ℕ, Bool, true, false, not, nat_eq, List, [], ◌∷◌, refl, sym}
use Rattle.std.specs.Cmp.Lexicographic.{pointwise, same_text}
use Rattle.std.proofs.lemmas.Bool.{and_parts}

pub same_names : (xs ys : List (List ℕ)) → true ≡ pointwise (pointwise nat_eq) xs ys → xs ≡ ys
same_names [] [] e = refl
same_names [] (y ∷ ys) e = cc
same_names (x ∷ xs) [] e = cc
same_names (x ∷ xs) (y ∷ ys) e =
    let parts = and_parts _ _ (sym e) in λ i. same_text x y (sym parts.0) i ∷ same_names xs ys (sym parts.1) i

-- what isn't other is the same
pub not_other : (b : Bool) → not b ≡ false → true ≡ b
not_other true e = refl
not_other false e = cc
