-- The first few of lists that are put one behind the other.
use Rattle.std.proofs.Common.{◌≡◌, ℕ, suc, zero, ◌≤◌, List, [], ◌∷◌, ◌++◌, length, take, refl, sym, ap, ◌∙◌}
use Rattle.std.proofs.Common.{append_assoc}
use Rattle.std.proofs.lemmas.List.{append-nil, take_all}

-- what comes behind a list that was cut is cut with it
pub take_again : {A : Type 0} (n : ℕ) (xs ys : List A) → take n (take n xs ++ ys) ≡ take n (xs ++ ys)
take_again zero xs ys = refl
take_again (suc n) [] ys = refl
take_again {A} (suc n) (x ∷ xs) ys = ap {B = List A} (λ r. x ∷ r) (take_again n xs ys)

-- one piece more: what is left is put behind it
pub take_more : {A : Type 0} (n : ℕ) (xs ys zs now : List A) → now ≡ take n (xs ++ ys)
    → take n (now ++ zs) ≡ take n (xs ++ (ys ++ zs))
take_more n xs ys zs now is = rw is (take_again n (xs ++ ys) zs ∙ ap (take n) (append_assoc xs ys zs))

-- nothing is left
pub take_done : {A : Type 0} (n : ℕ) (xs rest : List A) → length xs ≤ n → rest ≡ [] → xs ≡ take n (xs ++ rest)
take_done n xs rest short none = sym (rw (none, append-nil xs) (take_all n xs short))
