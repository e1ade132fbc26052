-- What a search and a comparison say of the rest of lists, item by item.
use Rattle.std.proofs.Common.{◌≡◌, ◌≢◌, ◌∙◌, ◌+◌, ◌<◌, ◌≤◌, ◌&&◌, ℕ, suc, Bool, true, false, cond, List, [], ◌∷◌}
use Rattle.std.proofs.Common.{Option, Some, None, length, drop, get_or, refl, ap, sym, arith}
use Rattle.std.specs.Cmp.Lexicographic.{pointwise}
use Rattle.std.specs.List.{find}
use Rattle.std.proofs.lemmas.List.{drop_all, drop_more}
use Rattle.std.proofs.Math.Bool.{and-false}

module _ {X : Type 0} (p : X → Bool) (xs : List X) (whole : Option X) where
  -- the item isn't it
  pub find_goes_on : (i : ℕ) (d : X) → i < length xs → p (get_or xs i d) ≡ false → find p (drop i xs) ≡ whole
      → find p (drop (i + 1) xs) ≡ whole
  find_goes_on i d within other is =
      sym (ap (find p) (drop_more xs i d within)
      ∙ ap (λ b. cond b (Some (get_or xs i d)) (find p (drop (i + 1) xs))) other) ∙ is

  -- the item is it
  pub find_here : (i : ℕ) (d : X) → i < length xs → p (get_or xs i d) ≡ true → find p (drop i xs) ≡ whole
      → Some (get_or xs i d) ≡ whole
  find_here i d within this is =
      sym (ap (find p) (drop_more xs i d within)
      ∙ ap (λ b. cond b (Some (get_or xs i d)) (find p (drop (i + 1) xs))) this) ∙ is

  -- no item is left
  pub find_ends : (i : ℕ) → length xs ≤ i → find p (drop i xs) ≡ whole → None ≡ whole
  find_ends i past is = sym (ap (find p) (drop_all i xs past)) ∙ is

module _ {X : Type 0} (same : X → X → Bool) (xs ys : List X) (whole : Bool) where
  -- the items are the same
  pub same_goes_on : (i : ℕ) (d e : X) → i < length xs → length xs ≡ length ys
      → same (get_or xs i d) (get_or ys i e) ≡ true
      → pointwise same (drop i xs) (drop i ys) ≡ whole → pointwise same (drop (i + 1) xs) (drop (i + 1) ys) ≡ whole
  same_goes_on i d e within equal alike is =
      ap (λ b. b && pointwise same (drop (i + 1) xs) (drop (i + 1) ys)) (sym alike)
      ∙ sym (ap (λ rest. pointwise same rest (drop i ys)) (drop_more xs i d within)
      ∙ ap (λ rest. pointwise same (get_or xs i d ∷ drop (i + 1) xs) rest)
      (drop_more ys i e (omega (arith, within, equal))))
      ∙ is

  -- the items differ
  pub same_fails : (i : ℕ) (d e : X) → i < length xs → length xs ≡ length ys
      → same (get_or xs i d) (get_or ys i e) ≡ false
      → pointwise same (drop i xs) (drop i ys) ≡ whole → false ≡ whole
  same_fails i d e within equal differ is =
      ap (λ b. b && pointwise same (drop (i + 1) xs) (drop (i + 1) ys)) (sym differ)
      ∙ sym (ap (λ rest. pointwise same rest (drop i ys)) (drop_more xs i d within)
      ∙ ap (λ rest. pointwise same (get_or xs i d ∷ drop (i + 1) xs) rest)
      (drop_more ys i e (omega (arith, within, equal))))
      ∙ is

  -- no items are left
  pub same_ends : (i : ℕ) → length xs ≤ i → length xs ≡ length ys → pointwise same (drop i xs) (drop i ys) ≡ whole
      → true ≡ whole
  same_ends i past equal is =
      sym (ap (λ rest. pointwise same rest (drop i ys)) (drop_all i xs past)
      ∙ ap (pointwise same []) (drop_all i ys (omega (arith, past, equal)))) ∙ is

-- lists of other lengths aren't the same
pub other_lengths : {X : Type 0} (same : X → X → Bool) (xs ys : List X) → length xs ≢ length ys
    → pointwise same xs ys ≡ false
other_lengths same [] [] other = absurd (other refl)
other_lengths same [] (y ∷ ys) other = refl
other_lengths same (x ∷ xs) [] other = refl
other_lengths same (x ∷ xs) (y ∷ ys) other =
    ap (λ b. same x y && b) (other_lengths same xs ys (λ e. other (ap suc e))) ∙ and-false (same x y)

pub ruleset find_steps = (find_goes_on, find_here, find_ends)

pub ruleset same_steps = (same_goes_on, same_fails, same_ends, other_lengths)
