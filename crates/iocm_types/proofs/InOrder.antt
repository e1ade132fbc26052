-- Rows in the order of their keys, each key once: as `is_sorted` tells it of the rows, and as
-- `IsStrictlySortedBy` says it of their keys.
use Rattle.std.proofs.Common.{◌≡◌, List, [], ◌∷◌, T, sym, subst}
use Rattle.std.proofs.lemmas.Map.Keys.{sorted_head, sorted_tail}
use Rattle.std.specs.FinMap.{is_sorted}
use Rattle.std.specs.FinMap.Entries.{below_all}
use Rattle.std.specs.List.{AllByRecursion}
use Rattle.std.specs.List.Sorted.{IsStrictlySortedBy}
use Rattle.std.specs.Map.{keys_of}
use Rattle.std.specs.Ordering.{is_lt}
use Rattle.std.specs.declared.cmp.Ordering.{Ordering}
use Rattle.std.specs.declared.cmp.Ordering.TheVariants.{Less}
use Rattle.iocm_types.proofs.Orderings.{less_is}
use Rattle.iocm_types.proofs.Tests.{both_hold, first_holds, second_holds}

module _ {K X : Type 0} (R : K → K → Ordering) where
  below_rows : (k : K) (es : List (K × X)) → AllByRecursion (λ y. R k y ≡ Less) (keys_of es) → T (below_all R k es)
  below_rows k [] h = tt
  below_rows k (e ∷ es) h = both_hold _ _ (subst (λ r. T (is_lt r)) (sym h.0) tt) (below_rows k es h.1)

  -- rows whose keys are in order are in order
  pub rows_sorted : (es : List (K × X)) → IsStrictlySortedBy R (keys_of es) → T (is_sorted R es)
  rows_sorted [] h = tt
  rows_sorted (e ∷ es) h =
      both_hold _ _ (below_rows e.0 es (sorted_head R _ _ h)) (rows_sorted es (sorted_tail R _ _ h))

  keys_below : (k : K) (es : List (K × X)) → T (below_all R k es) → AllByRecursion (λ y. R k y ≡ Less) (keys_of es)
  keys_below k [] below = tt
  keys_below k (e ∷ es) below = (less_is (R k e.0) (first_holds _ _ below), keys_below k es (second_holds _ _ below))

  -- the keys of rows in order are in order
  pub keys_rise : (es : List (K × X)) → T (is_sorted R es) → IsStrictlySortedBy R (keys_of es)
  unfolding IsStrictlySortedBy
  keys_rise [] up = tt
  keys_rise (e ∷ es) up = (keys_below e.0 es (first_holds _ _ up), keys_rise es (second_holds _ _ up))
