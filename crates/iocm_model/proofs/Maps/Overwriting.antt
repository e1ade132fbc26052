-- To overwrite cells as another map has them gives that map, where the two agree elsewhere.
use Rattle.std.proofs.Common.{◌≡◌, Bool, true, false, cond, ◌||◌, List, [], ◌∷◌, ◌++◌, Option, Some, None, refl, sym}
use Rattle.std.proofs.Common.{ap, ◌∙◌}
use Rattle.std.specs.List.{list_any, find}
use Rattle.std.specs.Ordering.{is_eq, eq_by_cmp}
use Rattle.std.specs.declared.cmp.Ordering.{Ordering}
use Rattle.std.specs.Cmp.{IsTotalOrder, tied_itself}
use Rattle.std.specs.FinMap.{FinMap, IsAntisymmetric, get, entries, same_map}
use Rattle.std.proofs.lemmas.Bool.{or_parts, or_right}
use Rattle.std.proofs.lemmas.List.Folds.{list_any-append}
use Rattle.iocm_types.proofs.Found.{same_key}
use Rattle.iocm_model.specs.Change.Maps.{with_cells, cells_at}
use Rattle.iocm_model.proofs.Maps.Cells.{get_with_cells_as}

module _ {K : Type 0} (R : K → K → Ordering) where
  -- a key that stands in neither of two lists
  pub not_in_first : (q : K) (xs ys : List K) → list_any (eq_by_cmp R q) (xs ++ ys) ≡ false
      → list_any (eq_by_cmp R q) xs ≡ false
  not_in_first q xs ys h = (or_parts _ _ (sym (list_any-append (eq_by_cmp R q) xs ys) ∙ h)).0

  pub not_in_second : (q : K) (xs ys : List K) → list_any (eq_by_cmp R q) (xs ++ ys) ≡ false
      → list_any (eq_by_cmp R q) ys ≡ false
  not_in_second q xs ys h = (or_parts _ _ (sym (list_any-append (eq_by_cmp R q) xs ys) ∙ h)).1

module _ {K : Type 0} (R : K → K → Ordering) (total : IsTotalOrder R) (exact : IsAntisymmetric R) where
  stands_first : (x : K) (xs : List K) → list_any (eq_by_cmp R x) (x ∷ xs) ≡ true
  stands_first x xs = ap (λ r. is_eq r || list_any (eq_by_cmp R x) xs) (tied_itself total x)

  -- where no key of a list passes a test, none is found
  pub find_none : (test : K → Bool) (xs : List K) → ((q : K) → list_any (eq_by_cmp R q) xs ≡ true → test q ≡ false)
      → find test xs ≡ None
  find_none test [] none = refl
  find_none test (x ∷ xs) none =
      let here : test x ≡ false = none x (stands_first x xs) in
      rw here (find_none test xs (λ q h. none q (or_right (eq_by_cmp R q x) _ h)))

  found_by : (test : K → Bool) (x q : K) (xs : List K) (a b : Bool) → test x ≡ a → eq_by_cmp R q x ≡ b
      → cond a (Some x) (find test xs) ≡ None
      → (find test xs ≡ None → list_any (eq_by_cmp R q) xs ≡ true → test q ≡ false)
      → (b || list_any (eq_by_cmp R q) xs) ≡ true → test q ≡ false
  found_by test x q xs true b e f n more h = cc
  found_by test x q xs false true e f n more h = ap test (same_key R exact q x f) ∙ e
  found_by test x q xs false false e f n more h = more n h

  -- and where none is found, none passes
  pub none_found : (test : K → Bool) (xs : List K) → find test xs ≡ None → (q : K) → list_any (eq_by_cmp R q) xs ≡ true
      → test q ≡ false
  none_found test [] none q h = cc
  none_found test (x ∷ xs) none q h =
      found_by test x q xs (test x) (eq_by_cmp R q x) refl refl none (λ n m. none_found test xs n q m) h

module _ {K X : Type 0} {R : K → K → Ordering} (total : IsTotalOrder R) (exact : IsAntisymmetric R) where
  at_each : (b : Bool) (x y : Option X) → (b ≡ false → y ≡ x) → cond b x y ≡ x
  at_each true x y same = refl
  at_each false x y same = same refl

  -- overwritten as another map has it, a map is that one, where the two agree at all other keys
  pub with_cells_is : (m n : FinMap R X) (ks : List K)
      → ((q : K) → list_any (eq_by_cmp R q) ks ≡ false → get m q ≡ get n q)
      → with_cells (entries (cells_at n ks)) m ≡ n
  with_cells_is m n ks same = same_map total exact _ _
      (λ q. get_with_cells_as total exact n ks m q ∙ at_each (list_any (eq_by_cmp R q) ks) (get n q) (get m q) (same q))
