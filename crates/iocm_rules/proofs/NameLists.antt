-- Lists of names, one behind the other.
use Rattle.std.proofs.Common.{◌≡◌, ℕ, Bool, true, false, not, ◌||◌, List, [], ◌∷◌, ◌++◌, refl, ap, ◌∙◌}
use Rattle.std.proofs.lemmas.List.Folds.{list_any-append}
use Rattle.std.specs.List.{list_any}
use Rattle.iocm_model.specs.Rules.EachRule.{same_name, has_two_names}

-- a name that differs from one of some names
abbrev pub differs : List (List ℕ) → List ℕ → Bool
differs others a = list_any (λ b. not (same_name a b)) others

-- a test that two tests make up
either : {A : Type 0} (p q r : A → Bool) → ((x : A) → r x ≡ (p x || q x)) → (xs : List A)
    → list_any r xs ≡ (list_any p xs || list_any q xs)
either p q r is [] = refl
either p q r is (x ∷ xs) =
    ap (λ b. b || list_any r xs) (is x) ∙ ap (λ b. (p x || q x) || b) (either p q r is xs)
    ∙ swapped (p x) (q x) (list_any p xs) (list_any q xs)
  where
    swapped : (a b c d : Bool) → ((a || b) || (c || d)) ≡ ((a || c) || (b || d))
    swapped true b c d = refl
    swapped false true true d = refl
    swapped false true false d = refl
    swapped false false c d = refl

-- two names in two lists differ where one of one list differs from one of one
pub two_names : (xs ys : List (List ℕ))
    → has_two_names (xs ++ ys)
    ≡ ((list_any (differs xs) xs || list_any (differs ys) xs)
    || (list_any (differs xs) ys || list_any (differs ys) ys))
two_names xs ys =
    list_any-append (differs (xs ++ ys)) xs ys
    ∙ (λ i. each xs i || each ys i)
  where
    each : (zs : List (List ℕ))
        → list_any (differs (xs ++ ys)) zs ≡ (list_any (differs xs) zs || list_any (differs ys) zs)
    each zs = either (differs xs) (differs ys) (differs (xs ++ ys))
        (λ a. list_any-append (λ b. not (same_name a b)) xs ys) zs
