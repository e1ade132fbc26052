-- What a comparison of two lists says of their rests, item by item.
use Rattle.std.proofs.Common.{◌≡◌, ◌∙◌, ◌+◌, ◌<◌, ◌≤◌, ◌&&◌, ℕ, Bool, true, false, List, [], ◌∷◌, length, drop, get_or}
use Rattle.std.proofs.Common.{refl, ap, sym, arith}
use Rattle.std.specs.Cmp.Lexicographic.{pointwise}
use Rattle.std.proofs.lemmas.List.{drop_all, drop_more}

module _ {X : Type 0} (same : X → X → Bool) (xs ys : List X) (whole : Bool) where
  rest_at : (i : ℕ) (d e : X) → i < length xs → length xs ≡ length ys
      → pointwise same (drop i xs) (drop i ys)
      ≡ (same (get_or xs i d) (get_or ys i e) && pointwise same (drop (i + 1) xs) (drop (i + 1) ys))
  rest_at i d e within equal = ap (λ rest. pointwise same rest (drop i ys)) (drop_more xs i d within)
      ∙ ap (λ rest. pointwise same (get_or xs i d ∷ drop (i + 1) xs) rest)
      (drop_more ys i e (omega (arith, within, equal)))

  -- the items are the same
  pub same_goes_on : (i : ℕ) (d e : X) → i < length xs → length xs ≡ length ys
      → same (get_or xs i d) (get_or ys i e) ≡ true
      → pointwise same (drop i xs) (drop i ys) ≡ whole → pointwise same (drop (i + 1) xs) (drop (i + 1) ys) ≡ whole
  same_goes_on i d e within equal alike is =
      ap (λ b. b && pointwise same (drop (i + 1) xs) (drop (i + 1) ys)) (sym alike) ∙ sym (rest_at i d e within equal)
      ∙ is

  -- the items differ
  pub same_fails : (i : ℕ) (d e : X) → i < length xs → length xs ≡ length ys
      → same (get_or xs i d) (get_or ys i e) ≡ false
      → pointwise same (drop i xs) (drop i ys) ≡ whole → false ≡ whole
  same_fails i d e within equal differ is =
      ap (λ b. b && pointwise same (drop (i + 1) xs) (drop (i + 1) ys)) (sym differ) ∙ sym (rest_at i d e within equal)
      ∙ is

  -- no items are left
  pub same_ends : (i : ℕ) → length xs ≤ i → length xs ≡ length ys → pointwise same (drop i xs) (drop i ys) ≡ whole
      → true ≡ whole
  same_ends i past equal is = sym (ap (λ rest. pointwise same rest (drop i ys)) (drop_all i xs past)
      ∙ ap (pointwise same []) (drop_all i ys (omega (arith, past, equal)))) ∙ is

-- lists of other lengths are not the same
pub other_lengths : {X : Type 0} (same : X → X → Bool) (xs ys : List X) → (length xs ≡ length ys → ⊥)
    → false ≡ pointwise same xs ys
other_lengths same [] [] other = absurd (other refl)
other_lengths same [] (y ∷ ys) other = refl
other_lengths same (x ∷ xs) [] other = refl
other_lengths same (x ∷ xs) (y ∷ ys) other =
    by (same x y) (other_lengths same xs ys (λ e. other (omega (arith, e))))
  where
    by : (b : Bool) → false ≡ pointwise same xs ys → false ≡ (b && pointwise same xs ys)
    by true rest = rest
    by false rest = refl

pub ruleset same_steps = (same_goes_on, same_fails, same_ends, other_lengths)
