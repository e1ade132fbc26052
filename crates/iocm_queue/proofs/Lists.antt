-- Lists of which one place changes, or that get one more.
use Rattle.std.proofs.Common.{◌≡◌, ◌≢◌, ◌⊎◌, ℕ, zero, suc, List, [], ◌∷◌, ◌++◌, length, set, inl, inr, refl, sym, ap}
use Rattle.std.proofs.Common.{subst, ⊎_elim}
use mathlib.Core.Option.{some, some-injective, some-ne-none}
use lib.ListN.{get_elem?}
use Rattle.atomic_table.proofs.Lists.{at_set}

module _ {A : Type 0} where
  -- who stands in a list with one more at its end, and where
  at_end : (l : List A) (a b : A) (j : ℕ) → get_elem? (l ++ a ∷ []) j ≡ some b
      → (get_elem? l j ≡ some b) ⊎ ((j ≡ length l) × (a ≡ b))
  at_end [] a b zero e = inr (refl, some-injective a b e)
  at_end [] a b (suc j) e = absurd (some-ne-none b (sym e))
  at_end (x ∷ xs) a b zero e = inl e
  at_end (x ∷ xs) a b (suc j) e = ⊎_elim (λ t. inl t) (λ t. inr (ap suc t.0, t.1)) (at_end xs a b j e)

  -- what holds of each place still does where one place changes
  pub each_set : (P : ℕ → A → Type 0) (l : List A) (i : ℕ) (a : A)
      → ((j : ℕ) (b : A) → j ≢ i → get_elem? l j ≡ some b → P j b) → P i a → (j : ℕ) (b : A)
      → get_elem? (set l i a) j ≡ some b → P j b
  each_set P l i a others mine j b e =
      ⊎_elim
      (λ (t : (j ≡ i) × (a ≡ b)). subst (λ (y : ℕ × A). P y.0 y.1) (λ k. (sym t.0 k, t.1 k)) mine)
      (λ (t : (j ≢ i) × (get_elem? l j ≡ some b)). others j b t.0 t.1)
      (at_set l i j a b e)

  -- the same where there is one more
  pub each_end : (P : ℕ → A → Type 0) (l : List A) (a : A) → ((j : ℕ) (b : A) → get_elem? l j ≡ some b → P j b)
      → P (length l) a → (j : ℕ) (b : A)
      → get_elem? (l ++ a ∷ []) j ≡ some b → P j b
  each_end P l a others mine j b e =
      ⊎_elim
      (λ (t : get_elem? l j ≡ some b). others j b t)
      (λ (t : (j ≡ length l) × (a ≡ b)). subst (λ (y : ℕ × A). P y.0 y.1) (λ k. (sym t.0 k, t.1 k)) mine)
      (at_end l a b j e)

  -- who stands in another place than the one that changed
  pub at_other : (l : List A) (i j : ℕ) (a b : A) → j ≢ i → get_elem? (set l i a) j ≡ some b → get_elem? l j ≡ some b
  at_other l i j a b ne e =
      ⊎_elim (λ (t : (j ≡ i) × (a ≡ b)). absurd (ne t.0)) (λ (t : (j ≢ i) × (get_elem? l j ≡ some b)). t.1)
      (at_set l i j a b e)
