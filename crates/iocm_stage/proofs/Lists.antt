-- Lists: the first so many, the rest, and the last.
use Rattle.std.proofs.Common.{◌≡◌, ℕ, zero, suc, ◌+◌, List, [], ◌∷◌, ◌++◌, take, drop, map, reverse, refl, ap, ◌∙◌}
use Rattle.std.proofs.Common.{add-one}
use Rattle.std.proofs.lemmas.List.{map-append, reverse-append}

module _ {A : Type 0} where
  pub same_head : (x y : A) (xs ys : List A) → x ∷ xs ≡ y ∷ ys → x ≡ y
  same_head x y xs ys h = cc

  pub same_tail : (x y : A) (xs ys : List A) → x ∷ xs ≡ y ∷ ys → xs ≡ ys
  same_tail x y xs ys h = cc

  -- one more of a list, where there is one
  take_suc : (k : ℕ) (xs : List A) (y : A) (ys : List A) → drop k xs ≡ y ∷ ys → take (suc k) xs ≡ take k xs ++ (y ∷ [])
  take_suc zero [] y ys h = cc
  take_suc zero (x ∷ xs) y ys h = ap (λ z. z ∷ []) (same_head x y xs ys h)
  take_suc (suc k) [] y ys h = cc
  take_suc (suc k) (x ∷ xs) y ys h = ap (λ zs. x ∷ zs) (take_suc k xs y ys h)

  drop_suc : (k : ℕ) (xs : List A) (y : A) (ys : List A) → drop k xs ≡ y ∷ ys → drop (suc k) xs ≡ ys
  drop_suc zero [] y ys h = cc
  drop_suc zero (x ∷ xs) y ys h = same_tail x y xs ys h
  drop_suc (suc k) [] y ys h = cc
  drop_suc (suc k) (x ∷ xs) y ys h = drop_suc k xs y ys h

  pub take_more : (k : ℕ) (xs : List A) (y : A) (ys : List A) → drop k xs ≡ y ∷ ys
      → take (k + 1) xs ≡ take k xs ++ (y ∷ [])
  take_more k xs y ys h = ap (λ n. take n xs) (add-one k) ∙ take_suc k xs y ys h

  pub drop_more : (k : ℕ) (xs : List A) (y : A) (ys : List A) → drop k xs ≡ y ∷ ys → drop (k + 1) xs ≡ ys
  drop_more k xs y ys h = ap (λ n. drop n xs) (add-one k) ∙ drop_suc k xs y ys h

  -- and where there is none
  take_no_suc : (k : ℕ) (xs : List A) → drop k xs ≡ [] → take (suc k) xs ≡ take k xs
  take_no_suc zero [] h = refl
  take_no_suc zero (x ∷ xs) h = cc
  take_no_suc (suc k) [] h = refl
  take_no_suc (suc k) (x ∷ xs) h = ap (λ zs. x ∷ zs) (take_no_suc k xs h)

  drop_no_suc : (k : ℕ) (xs : List A) → drop k xs ≡ [] → drop (suc k) xs ≡ []
  drop_no_suc zero [] h = refl
  drop_no_suc zero (x ∷ xs) h = cc
  drop_no_suc (suc k) [] h = refl
  drop_no_suc (suc k) (x ∷ xs) h = drop_no_suc k xs h

  pub take_no_more : (k : ℕ) (xs : List A) → drop k xs ≡ [] → take (k + 1) xs ≡ take k xs
  take_no_more k xs h = ap (λ n. take n xs) (add-one k) ∙ take_no_suc k xs h

  pub drop_no_more : (k : ℕ) (xs : List A) → drop k xs ≡ [] → drop (k + 1) xs ≡ []
  drop_no_more k xs h = ap (λ n. drop n xs) (add-one k) ∙ drop_no_suc k xs h

  -- the last is the first in reverse
  pub reverse_last : (xs : List A) (y : A) → reverse (xs ++ (y ∷ [])) ≡ y ∷ reverse xs
  reverse_last xs y = reverse-append xs (y ∷ [])

  -- a list with something in it has a last
  pub record HasLast (xs : List A) : Type 0 where
    pub before : List A
    pub last : A
    pub is : xs ≡ before ++ (last ∷ [])

  pub has_last : (x : A) (xs : List A) → HasLast (x ∷ xs)
  has_last x [] = record { before = []; last = x; is = refl }
  has_last x (y ∷ ys) = let rest = has_last y ys in
      record { before = x ∷ rest.before; last = rest.last; is = ap (λ zs. x ∷ zs) rest.is }

module _ {A B : Type 0} (f : A → B) where
  -- the same of what is made of each
  pub map_last : (old new : List A) (x : A) → old ≡ new ++ (x ∷ []) → map f old ≡ map f new ++ (f x ∷ [])
  map_last old new x is = ap (map f) is ∙ map-append f new (x ∷ [])

  pub map_reverse_last : (old new : List A) (x : A) → old ≡ new ++ (x ∷ [])
      → map f (reverse old) ≡ f x ∷ map f (reverse new)
  map_reverse_last old new x is = ap (λ xs. map f (reverse xs)) is ∙ ap (map f) (reverse_last new x)
