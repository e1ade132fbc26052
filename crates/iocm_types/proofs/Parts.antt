-- What is found in a list that is put together of parts, where a key stands in one part alone.
use Rattle.std.proofs.Common.{◌≡◌, ℕ, Bool, true, false, cond, nat_eq, eqb-true, List, [], ◌∷◌, ◌++◌, Option, Some}
use Rattle.std.proofs.Common.{None, refl, sym, ap, ◌∙◌, ◌||◌}
use Rattle.std.proofs.lemmas.Bool.{eqb-false, or_parts}
use Rattle.std.specs.List.{flat_map, list_any}
use Rattle.std.specs.Option.{option_or}
use Rattle.std.specs.Ordering.{is_eq, eq_by_cmp}
use Rattle.std.specs.declared.cmp.Ordering.{Ordering}
use Rattle.std.specs.declared.cmp.Ordering.TheVariants.{Less, Equal, Greater}
use Rattle.std.specs.FinMap.{IsAntisymmetric, find}

-- an answer, or else none
pub or_none : {A : Type 0} (a : Option A) → option_or a None ≡ a
or_none None = refl
or_none (Some x) = refl

-- other keys don't tie
pub untied : {K : Type 0} (R : K → K → Ordering) → IsAntisymmetric R → (x y : K) → (x ≡ y → ⊥) → eq_by_cmp R x y ≡ false
untied R exact x y other = by (R x y) refl
  where
    by : (r : Ordering) → R x y ≡ r → is_eq r ≡ false
    by Less e = refl
    by Equal e = absurd (other (exact x y e))
    by Greater e = refl

-- numbers of which none stands twice
abbrev pub AreDistinct : List ℕ → Type 0
AreDistinct [] = Unit {0}
AreDistinct (i ∷ is) = (list_any (nat_eq i) is ≡ false) × AreDistinct is

module _ {K X : Type 0} (R : K → K → Ordering) where
  found_by : (b : Bool) (x : X) (a c : Option X) → cond b (Some x) (option_or a c) ≡ option_or (cond b (Some x) a) c
  found_by true x a c = refl
  found_by false x a c = refl

  pub find_append : (q : K) (xs ys : List (K × X)) → find R q (xs ++ ys) ≡ option_or (find R q xs) (find R q ys)
  find_append q [] ys = refl
  find_append q (e ∷ xs) ys =
      ap (cond (eq_by_cmp R q e.0) (Some e.1)) (find_append q xs ys)
      ∙ found_by (eq_by_cmp R q e.0) e.1 (find R q xs) (find R q ys)

  -- what is in no part isn't found
  pub find_nowhere : (q : K) (part : ℕ → List (K × X)) → ((y : ℕ) → find R q (part y) ≡ None) → (xs : List ℕ)
      → find R q (flat_map part xs) ≡ None
  find_nowhere q part none [] = refl
  find_nowhere q part none (y ∷ xs) =
      find_append q (part y) (flat_map part xs) ∙ (λ i. option_or (none y i) (find_nowhere q part none xs i))

  module _ (q : K) (part : ℕ → List (K × X)) (x : ℕ) (alone : (y : ℕ) → (y ≡ x → ⊥) → find R q (part y) ≡ None) where
    -- where its number isn't in the list, it isn't found
    none_in : (xs : List ℕ) → list_any (nat_eq x) xs ≡ false → find R q (flat_map part xs) ≡ None
    none_in [] h = refl
    none_in (y ∷ xs) h =
        let apart = or_parts _ _ h in
        find_append q (part y) (flat_map part xs)
        ∙ (λ i. option_or (alone y (λ e. eqb-false x y apart.0 (sym e)) i) (none_in xs apart.1 i))

    -- where it is found, its number is in the list
    pub part_there : (xs : List ℕ) (v : X) → find R q (flat_map part xs) ≡ Some v → list_any (nat_eq x) xs ≡ true
    part_there xs v is = by (list_any (nat_eq x) xs) refl
      where
        by : (b : Bool) → list_any (nat_eq x) xs ≡ b → b ≡ true
        by true e = refl
        by false e = let bad : None ≡ Some v = sym (none_in xs e) ∙ is in cc

    -- the key is found in its part, where no number stands twice
    pub find_part : (xs : List ℕ) → AreDistinct xs → list_any (nat_eq x) xs ≡ true
        → find R q (flat_map part xs) ≡ find R q (part x)
    find_part [] distinct h = cc
    find_part (y ∷ xs) distinct h =
        find_append q (part y) (flat_map part xs) ∙ by (nat_eq x y) refl h (find_part xs distinct.1)
      where
        by : (b : Bool) → nat_eq x y ≡ b → (b || list_any (nat_eq x) xs) ≡ true
            → (list_any (nat_eq x) xs ≡ true → find R q (flat_map part xs) ≡ find R q (part x))
            → option_or (find R q (part y)) (find R q (flat_map part xs)) ≡ find R q (part x)
        by true e h more =
            let same : y ≡ x = sym (eqb-true x y e) in
            (λ i. option_or (find R q (part (same i)))
            (none_in xs (ap (λ k. list_any (nat_eq k) xs) (sym same) ∙ distinct.0) i)) ∙ or_none (find R q (part x))
        by false e h more = (λ i. option_or (alone y (λ k. eqb-false x y e (sym k)) i) (more h i))

    from_by : (y : ℕ) (v : X) (b : Bool) (rest : Option X) → nat_eq y x ≡ b
        → (rest ≡ Some v → find R q (part x) ≡ Some v)
        → option_or (find R q (part y)) rest ≡ Some v → find R q (part x) ≡ Some v
    from_by y v true rest same more is = here (find R q (part y)) refl is
      where
        here : (a : Option X) → find R q (part y) ≡ a → option_or a rest ≡ Some v → find R q (part x) ≡ Some v
        here None e k = more k
        here (Some w) e k = ap (λ z. find R q (part z)) (sym (eqb-true y x same)) ∙ e ∙ k
    from_by y v false rest other more is =
        more (sym (ap (λ a. option_or a rest) (alone y (eqb-false y x other))) ∙ is)

    -- what is found is found in its part
    pub found_in_part : (xs : List ℕ) (v : X) → find R q (flat_map part xs) ≡ Some v → find R q (part x) ≡ Some v
    found_in_part [] v is = cc
    found_in_part (y ∷ xs) v is =
        from_by y v (nat_eq y x) (find R q (flat_map part xs)) refl (found_in_part xs v)
        (sym (find_append q (part y) (flat_map part xs)) ∙ is)
