-- What a mask over the first eight paths tells of all paths.
use Rattle.std.proofs.Common.{◌≡◌, ℕ, zero, suc, ◌+◌, ◌/◌, ◌^◌, ◌<◌, ◌≤◌, Bool, true, false, ◌||◌, cond, List, [], ◌∷◌}
use Rattle.std.proofs.Common.{length, take, refl, sym, ap, ◌∙◌, arith}
use Rattle.std.specs.List.{list_any}
use Rattle.iocm_model.specs.Machine.Mask.{mask_from}

-- half of a power of two
half : (k : ℕ) → 2 ^ suc k / 2 ≡ 2 ^ k
half k = omega arith

some_bit : (k : ℕ) → 0 < 2 ^ k
some_bit zero = omega arith
some_bit (suc k) = let rest = some_bit k in omega arith

module _ (test : ℕ → Bool) where
  -- a mask that isn't zero is of a path that passes
  pub one_passes : (bit : ℕ) (ps : List ℕ) → 0 < mask_from bit test ps → list_any test ps ≡ true
  one_passes bit [] some = absurd (omega arith)
  one_passes bit (p ∷ ps) some = by (test p) some (one_passes (bit / 2) ps)
    where
      by : (b : Bool) → 0 < cond b bit 0 + mask_from (bit / 2) test ps
          → (0 < mask_from (bit / 2) test ps → list_any test ps ≡ true) → (b || list_any test ps) ≡ true
      by true some rest = refl
      by false some rest = rest (omega arith)

  -- a mask of zero is of paths none of which passes, if there is a bit for each
  pub none_passes : (k : ℕ) (ps : List ℕ) → length ps ≤ suc k → mask_from (2 ^ k) test ps ≡ 0 → list_any test ps ≡ false
  none_passes k [] short none = refl
  none_passes zero (p ∷ []) short none = by (test p) none
    where
      by : (b : Bool) → cond b 1 0 + 0 ≡ 0 → (b || false) ≡ false
      by true none = absurd (omega arith)
      by false none = refl
  none_passes zero (p ∷ q ∷ ps) short none = absurd (omega arith)
  none_passes (suc k) (p ∷ ps) short none = by (test p) none (none_passes k ps (omega arith))
    where
      by : (b : Bool) → cond b (2 ^ suc k) 0 + mask_from (2 ^ suc k / 2) test ps ≡ 0
          → (mask_from (2 ^ k) test ps ≡ 0 → list_any test ps ≡ false) → (b || list_any test ps) ≡ false
      by true none rest = let some = some_bit (suc k) in absurd (omega arith)
      by false none rest = let left : mask_from (2 ^ suc k / 2) test ps ≡ 0 = omega arith in
          rest (sym (ap (λ bit. mask_from bit test ps) (half k)) ∙ left)

  -- one of the first few that passes is one of all
  first_passes : (n : ℕ) (xs : List ℕ) → list_any test (take n xs) ≡ true → list_any test xs ≡ true
  first_passes zero xs one = cc
  first_passes (suc n) [] one = one
  first_passes (suc n) (x ∷ xs) one = by (test x) one (first_passes n xs)
    where
      by : (b : Bool) → (b || list_any test (take n xs)) ≡ true
          → (list_any test (take n xs) ≡ true → list_any test xs ≡ true) → (b || list_any test xs) ≡ true
      by true one rest = refl
      by false one rest = rest one

  -- fewer than the first few are all
  few_are_all : (n : ℕ) (xs : List ℕ) → length (take n xs) < n → take n xs ≡ xs
  few_are_all zero xs few = absurd (omega arith)
  few_are_all (suc n) [] few = refl
  few_are_all (suc n) (x ∷ xs) few = ap (λ ys. x ∷ ys) (few_are_all n xs (omega arith))

  -- a mask over the first eight that isn't zero
  pub reached_by_mask : (all paths : List ℕ) → paths ≡ take 8 all → 0 < mask_from 128 test paths
      → true ≡ list_any test all
  reached_by_mask all paths first some =
      sym (first_passes 8 all (sym (ap (list_any test) first) ∙ one_passes 128 paths some))

  -- a mask of zero over all, which are fewer than eight
  pub reached_by_none : (all paths : List ℕ) → paths ≡ take 8 all → length paths < 8 → mask_from 128 test paths ≡ 0
      → false ≡ list_any test all
  reached_by_none all paths first few none =
      let whole : paths ≡ all = first ∙ few_are_all 8 all (rw first at few) in
      sym (none_passes 7 paths (omega arith) none) ∙ ap (list_any test) whole
