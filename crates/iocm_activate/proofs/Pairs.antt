-- Two lists that are compared pair by pair.
use Rattle.std.proofs.Common.{◌≡◌, ℕ, ◌+◌, ◌<◌, ◌≤◌, Bool, true, false, ◌&&◌, List, length, get_or, drop, refl, ap, ◌∙◌}
use Rattle.std.specs.Cmp.Lexicographic.{pointwise}
use Rattle.std.proofs.lemmas.List.{drop_all}
use Rattle.iocm_types.proofs.Lists.{drop-item}

module _ {A B : Type 0} (same : A → B → Bool) (xs : List A) (ys : List B) where
  -- all of them are left at first
  pub begins : pointwise same xs ys ≡ pointwise same (drop 0 xs) (drop 0 ys)
  begins = refl

  -- one pair, and those from the next on
  at : (i : ℕ) (x : A) (y : B) → i < length xs → x ≡ get_or xs i x → i < length ys → y ≡ get_or ys i y
      → pointwise same xs ys ≡ pointwise same (drop i xs) (drop i ys)
      → pointwise same xs ys ≡ (same x y && pointwise same (drop (i + 1) xs) (drop (i + 1) ys))
  at i x y first is_x second is_y so_far =
      so_far ∙ (λ j. pointwise same (drop-item xs i x first is_x j) (drop-item ys i y second is_y j))

  -- a pair that is the same
  pub goes_on : (i : ℕ) (x : A) (y : B) → i < length xs → x ≡ get_or xs i x → i < length ys → y ≡ get_or ys i y
      → pointwise same xs ys ≡ pointwise same (drop i xs) (drop i ys) → same x y ≡ true
      → pointwise same xs ys ≡ pointwise same (drop (i + 1) xs) (drop (i + 1) ys)
  goes_on i x y first is_x second is_y so_far h =
      at i x y first is_x second is_y so_far ∙ ap (λ b. b && pointwise same (drop (i + 1) xs) (drop (i + 1) ys)) h

  -- one that isn't
  pub stops : (i : ℕ) (x : A) (y : B) → i < length xs → x ≡ get_or xs i x → i < length ys → y ≡ get_or ys i y
      → pointwise same xs ys ≡ pointwise same (drop i xs) (drop i ys) → same x y ≡ false → pointwise same xs ys ≡ false
  stops i x y first is_x second is_y so_far h =
      at i x y first is_x second is_y so_far ∙ ap (λ b. b && pointwise same (drop (i + 1) xs) (drop (i + 1) ys)) h

  -- no pair is left
  pub ends : (i : ℕ) → length xs ≤ i → length ys ≤ i → pointwise same xs ys ≡ pointwise same (drop i xs) (drop i ys)
      → pointwise same xs ys ≡ true
  ends i past over so_far = so_far ∙ (λ j. pointwise same (drop_all i xs past j) (drop_all i ys over j))
