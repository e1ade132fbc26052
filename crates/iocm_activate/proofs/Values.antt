-- What a map has at some keys, listed in the order of the keys.
use Rattle.std.proofs.Common.{◌≡◌, cond, T, List, [], ◌∷◌, map, Option, None, Some, refl, sym, ap, subst, ◌∙◌}
use Rattle.std.specs.List.{list_any}
use Rattle.std.specs.List.Sorted.{IsStrictlySortedBy}
use Rattle.std.specs.Map.{keys_of}
use Rattle.std.specs.Ordering.{eq_by_cmp}
use Rattle.std.specs.declared.cmp.Ordering.{Ordering}
use Rattle.std.specs.Cmp.{IsTotalOrder}
use Rattle.std.specs.FinMap.{FinMap, IsAntisymmetric, get, get-from_entries, get-from_sorted, is_sorted, same_map}
use Rattle.iocm_model.specs.Change.Maps.{cells_at}
use Rattle.iocm_model.proofs.Maps.Cells.{get_cells_at}
use Rattle.iocm_activate.specs.Cells.{cells_in}
use Rattle.iocm_types.proofs.InOrder.{rows_sorted}

module _ {K X : Type 0} {R : K → K → Ordering} where
  -- what a map has at some keys
  abbrev pub with_values : FinMap R X → List K → List (K × Option X)
  with_values m ks = map (λ key. (key, get m key)) ks

  -- it is under these keys
  pub keys_with_values : (m : FinMap R X) (ks : List K) → keys_of (with_values m ks) ≡ ks
  keys_with_values m [] = refl
  keys_with_values m (k ∷ ks) = ap (λ xs. k ∷ xs) (keys_with_values m ks)

  -- so it is in order where they are
  pub values_rise : (m : FinMap R X) (ks once : List K) (cells : List (K × Option X)) → cells ≡ with_values m ks
      → ks ≡ once
      → IsStrictlySortedBy R once → IsStrictlySortedBy R (keys_of cells)
  values_rise m ks once cells are same rise =
      subst (IsStrictlySortedBy R) (sym (ap keys_of are ∙ keys_with_values m ks ∙ same)) rise

module _ {K X : Type 0} {R : K → K → Ordering} (total : IsTotalOrder R) (exact : IsAntisymmetric R) where
  -- the cells of a map at the same keys, in another order or more than once
  pub same_cells : (m : FinMap R X) (ks js : List K)
      → ((q : K) → list_any (eq_by_cmp R q) ks ≡ list_any (eq_by_cmp R q) js)
      → cells_at m ks ≡ cells_at m js
  same_cells m ks js same = same_map total exact (cells_at m ks) (cells_at m js) (λ q. get_cells_at total exact m ks q
      ∙ ap (λ b. cond b (Some (get m q)) None) (same q) ∙ sym (get_cells_at total exact m js q))

  -- the cells of a map at keys in order, listed, are its cells at these keys however they are given
  pub listed_cells : (m : FinMap R X) (ks js : List K) (cells : List (K × Option X))
      → cells ≡ map (λ key. (key, get m key)) js
      → IsStrictlySortedBy R js → ((q : K) → list_any (eq_by_cmp R q) js ≡ list_any (eq_by_cmp R q) ks)
      → cells_in R cells ≡ cells_at m ks
  listed_cells m ks js cells are rise same = ap (λ (es : List (K × Option X)). cells_in R es) are
      ∙ same_map total exact (cells_in R (with_values m js)) (cells_at m js)
      (λ q. get-from_sorted R (with_values m js) q sorted
      ∙ sym (get-from_entries total (with_values m js) q)) ∙ same_cells m js ks same
    where
      sorted : T (is_sorted R (with_values m js))
      sorted = rows_sorted R (with_values m js) (subst (IsStrictlySortedBy R) (sym (keys_with_values m js)) rise)
