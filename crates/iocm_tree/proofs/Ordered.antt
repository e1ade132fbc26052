-- Rows in the order of their keys: as a finite map where there are none, and others of the same
-- keys.
use Rattle.std.proofs.Common.{◌≡◌, Bool, true, ◌&&◌, List, [], ◌∷◌, length, T, refl, sym, ap, subst, ◌∙◌}
use Rattle.std.proofs.lemmas.Map.Entries.{length-keys_of}
use Rattle.std.specs.Map.{keys_of}
use Rattle.std.specs.Ordering.{is_lt}
use Rattle.std.specs.declared.cmp.Ordering.{Ordering}
use Rattle.std.specs.FinMap.{FinMap, empty, from_sorted, entries-from_sorted, empty_of_len, len-entries}
use Rattle.std.specs.FinMap.Entries.{is_sorted, below_all}

module _ {K : Type 0} (R : K → K → Ordering) where
  abbrev stands_below : K → List K → Bool
  stands_below k [] = true
  stands_below k (q ∷ qs) = is_lt (R k q) && stands_below k qs

  abbrev rise : List K → Bool
  rise [] = true
  rise (k ∷ ks) = stands_below k ks && rise ks

  below_by_keys : {X : Type 0} (k : K) (es : List (K × X)) → below_all R k es ≡ stands_below k (keys_of es)
  below_by_keys k [] = refl
  below_by_keys k (e ∷ es) = ap (λ b. is_lt (R k e.0) && b) (below_by_keys k es)

  sorted_by_keys : {X : Type 0} (es : List (K × X)) → is_sorted R es ≡ rise (keys_of es)
  sorted_by_keys [] = refl
  sorted_by_keys (e ∷ es) =
      ap (λ b. b && is_sorted R es) (below_by_keys e.0 es)
      ∙ ap (λ b. stands_below e.0 (keys_of es) && b) (sorted_by_keys es)

  -- rows of the same keys as rows in order stand in order
  pub same_keys_sorted : {X : Type 0} (es fs : List (K × X)) → keys_of fs ≡ keys_of es → T (is_sorted R es)
      → T (is_sorted R fs)
  same_keys_sorted es fs same = subst T (sorted_by_keys es ∙ ap rise (sym same) ∙ sym (sorted_by_keys fs))

-- the map of no rows is the empty one
pub none_sorted : {K X : Type 0} (R : K → K → Ordering) → ◌≡◌ {A = FinMap R X} (from_sorted []) empty
none_sorted R = empty_of_len (from_sorted []) (len-entries (from_sorted []) ∙ ap length (entries-from_sorted R [] tt))

-- rows of the same keys are as many
pub same_keys_length : {K X : Type 0} (es fs : List (K × X)) → keys_of fs ≡ keys_of es → length es ≡ length fs
same_keys_length es fs same = sym (length-keys_of es) ∙ ap length (sym same) ∙ length-keys_of fs
