-- Keys at which two configurations differ stand in order, and lists in order with the same members
-- are one.
use Rattle.std.proofs.Common.{◌≡◌, not, List, [], ◌∷◌, ◌++◌, map, Option, Some, None, is_some, T, refl, sym, ap, subst}
use Rattle.std.proofs.Common.{◌∙◌}
use Rattle.std.specs.List.{list_any}
use Rattle.std.specs.List.Sorted.{IsStrictlySortedBy}
use Rattle.std.specs.Option.{option_eq}
use Rattle.std.specs.Ordering.{eq_by_cmp}
use Rattle.std.specs.FinMap.{get, entries, entries_sorted, from_entries}
use Rattle.std.specs.FinMap.Entries.{find, is_sorted, is_some-find, same_entries}
use Rattle.std.proofs.lemmas.List.Kept.{IsStrictlySortedBy-filter}
use Rattle.iocm_types.specs.declared.key.Key.{Key}
use Rattle.iocm_types.specs.Key.{key_cmp}
use Rattle.iocm_types.specs.KeyOrder.{keys_total, keys_exact}
use Rattle.iocm_types.proofs.InOrder.{keys_rise, rows_sorted}
use Rattle.iocm_model.specs.Machine.Configuration.{Configuration}
use Rattle.iocm_model.specs.Change.Maps.{differing}
use Rattle.iocm_difference.specs.Same.{same_record}
use Rattle.iocm_difference.proofs.Paired.{keys_of_both}

-- ---- the keys at which two configurations differ

-- they stand in order
pub differing_rise : (c d : Configuration) → IsStrictlySortedBy key_cmp (differing same_record c d)
differing_rise c d = IsStrictlySortedBy-filter key_cmp (λ key. not (option_eq same_record (get c key) (get d key)))
    (keys_of_both c d)
    (keys_rise key_cmp (entries both) (entries_sorted both))
  where
    both : Configuration
    both = from_entries (entries c ++ entries d)

-- ---- lists in order

-- a key as a row with nothing in it
abbrev as_row : Key → Key × Unit {0}
as_row k = (k, tt)

keys_again : (ks : List Key) → map (λ (e : Key × Unit {0}). e.0) (map as_row ks) ≡ ks
keys_again [] = refl
keys_again (k ∷ ks) = ap (λ xs. k ∷ xs) (keys_again ks)

marked_sorted : (ks : List Key) → IsStrictlySortedBy key_cmp ks → T (is_sorted key_cmp (map as_row ks))
marked_sorted ks rise = rows_sorted key_cmp (map as_row ks)
    (subst (λ xs. IsStrictlySortedBy key_cmp xs) (sym (keys_again ks)) rise)

nothing_more : (a b : Option (Unit {0})) → is_some a ≡ is_some b → a ≡ b
nothing_more None None h = refl
nothing_more None (Some x) h = cc
nothing_more (Some x) None h = cc
nothing_more (Some x) (Some y) h = refl

found_row : (q : Key) (ks : List Key) → is_some (find key_cmp q (map as_row ks)) ≡ list_any (eq_by_cmp key_cmp q) ks
found_row q ks = is_some-find key_cmp q (map as_row ks) ∙ ap (list_any (eq_by_cmp key_cmp q)) (keys_again ks)

-- lists in order with the same members are one
pub same_members : (xs ys : List Key) → IsStrictlySortedBy key_cmp xs → IsStrictlySortedBy key_cmp ys
    → ((q : Key) → list_any (eq_by_cmp key_cmp q) xs ≡ list_any (eq_by_cmp key_cmp q) ys) → xs ≡ ys
same_members xs ys rise rises same =
    sym (keys_again xs) ∙ ap (map (λ (e : Key × Unit {0}). e.0))
    (same_entries key_cmp keys_total keys_exact (map as_row xs) (map as_row ys) (marked_sorted xs rise)
    (marked_sorted ys rises)
    (λ q. nothing_more _ _ (found_row q xs ∙ same q ∙ sym (found_row q ys)))) ∙ keys_again ys
